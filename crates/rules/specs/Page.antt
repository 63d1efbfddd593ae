-- The page for the binder: an answer laid out in lines of 72 characters, 50 to a page, and the columns read back (02, R-1).
use Rattle.std.specs.Prelude.{ℕ, zero, suc, ◌+◌, ◌/◌, ◌%◌, List, [], ◌∷◌, ◌++◌, map, cond, eqb, length, take, drop, replicate}
use Rattle.rules.specs.Bytes.{Text}
use Rattle.rules.specs.Text.{bytes}
use Rattle.rules.specs.Maybe.{otherwise}
use Rattle.rules.specs.Lines.{lines}
use Rattle.rules.specs.Sheet.{Entry}
use Rattle.rules.specs.SheetLines.{ended}

-- The lines of a page

-- the first n bytes, blank-filled
unfoldable pub columns : ℕ → Text → Text
columns zero s = []
columns (suc n) [] = 32 ∷ columns n []
columns (suc n) (b ∷ s) = b ∷ columns n s

-- 72 characters: the key from column 1, its text in columns 10 to 72
unfoldable pub page_line : Text → Text → Text
unfolding columns
page_line key text = columns 9 key ++ columns 63 text

-- the lines of a text that goes on
abbrev pub below : (Text → List Text) → Text → List Text
below go_on [] = []
below go_on (b ∷ s) = go_on (b ∷ s)

-- longer text goes on below with columns 1 to 9 blank; at most k lines
unfoldable pub lines_within : ℕ → Text → Text → List Text
unfolding page_line
lines_within zero key text = []
lines_within (suc k) key text = page_line key text ∷ below (λ rest. lines_within k [] rest) (drop 63 text)

unfoldable pub text_lines : Text → Text → List Text
unfolding lines_within
text_lines key text = lines_within (suc (length text)) key text

unfoldable pub lines_of : List Entry → List Text
unfolding text_lines
lines_of [] = []
lines_of (e ∷ es) = text_lines e.0 e.1 ++ lines_of es

-- an answer's line without its first equals sign
unfoldable pub key_and_text : Text → Entry
key_and_text [] = ([], [])
key_and_text (b ∷ l) = let e = key_and_text l in cond (eqb b 61) ([], l) (b ∷ e.0, e.1)

-- the keys and texts of an answer
unfoldable pub entries : Text → List Entry
unfolding lines key_and_text
entries answer = map key_and_text (otherwise (lines answer) [])

-- Pages

-- `PAGE`, a blank and a number of four digits
unfoldable pub heading : ℕ → Text
unfolding columns
heading n = columns 72 (bytes "PAGE " ++ (48 + n / 1000 % 10) ∷ (48 + n / 100 % 10) ∷ (48 + n / 10 % 10) ∷ (48 + n % 10) ∷ [])

-- lines, as many as are left on this page, then on pages from a number on, each with its heading and 49 lines; the last is filled
unfoldable pub paged : ℕ → ℕ → List Text → List Text
unfolding page_line heading
paged left n [] = replicate left (page_line [] [])
paged zero n (l ∷ ls) = heading n ∷ l ∷ paged 48 (suc n) ls
paged (suc left) n (l ∷ ls) = l ∷ paged left n ls

unfoldable pub page_lines : Text → List Text
unfolding paged lines_of entries
page_lines answer = paged 0 1 (lines_of (entries answer))

-- the pages needed, 49 lines to each
unfoldable pub page_count : Text → ℕ
unfolding lines_of entries
page_count answer = (length (lines_of (entries answer)) + 48) / 49

-- the answer laid out, each line ended by byte 10
unfoldable pub page : Text → Text
unfolding ended page_lines
page answer = ended (page_lines answer)

-- The columns read back

-- the lines but the first of each page, of which so many lines are left
unfoldable pub unheaded : ℕ → List Text → List Text
unheaded left [] = []
unheaded zero (h ∷ ls) = unheaded 49 ls
unheaded (suc left) (l ∷ ls) = l ∷ unheaded left ls

-- the bytes before the first blank
unfoldable pub to_blank : Text → Text
to_blank [] = []
to_blank (b ∷ s) = cond (eqb b 32) [] (b ∷ to_blank s)

-- a line's key and text, before the text that waits for the line of its key and the answer after it
abbrev pub read_columns : Text → Text → Text × Text → Text × Text
read_columns [] text below = (text ++ below.0, below.1)
read_columns (k ∷ key) text below = ([], (k ∷ key) ++ (61 ∷ (text ++ (below.0 ++ (10 ∷ below.1)))))

unfoldable pub read_lines : List Text → Text × Text
unfolding to_blank
read_lines [] = ([], [])
read_lines (l ∷ ls) = read_columns (to_blank (take 9 l)) (to_blank (drop 9 l)) (read_lines ls)

unfoldable pub read_page : Text → Text
unfolding read_lines unheaded lines
read_page s = (read_lines (unheaded 0 (otherwise (lines s) []))).1
