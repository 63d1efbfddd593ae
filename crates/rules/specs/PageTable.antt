-- Sheets to check with their pages: one page, text that goes on below, a second page, and the shortest output (02, R-1).
use Rattle.std.specs.Prelude.{ℕ, List, [], ◌∷◌, ◌++◌, map, replicate}
use Rattle.rules.specs.Bytes.{Text}
use Rattle.rules.specs.Text.{bytes}
use Rattle.rules.specs.SheetLines.{ended}
use Rattle.rules.specs.declared.Refusal.TheVariants.{UnreadableTerm, ShortWorkArea, ShortOutput}
use Rattle.rules.specs.RefusalNumbers.{number_for}
use Rattle.rules.specs.Call.{refused, passed}
use Rattle.rules.specs.Page.{columns}
use Rattle.rules.specs.Table.{Row, text}
use Rattle.rules.specs.RefusalTable.{blanks}

-- lines, blank-filled
unfoldable pub on_paper : List Text → Text
unfolding ended columns
on_paper ls = ended (map (columns 72) ls)

-- the letter a, so many times
abbrev pub letters : ℕ → Text
letters n = replicate n 97

-- the sheet of a name of so many letters, which is its own normal form
abbrev pub reduces : ℕ → Text
reduces n = bytes "kind=reduce\nterm=" ++ (letters n ++ (10 ∷ []))

-- a row with words enough
abbrev pub paper : Text → ℕ → List Text → Row
paper sheet room ls = record { sheet = sheet; words = 2000000; room = room; reply = passed (on_paper ls) }

abbrev pub page_table : List Row
page_table =
    -- P1
    paper (text ("kind=unify" ∷ "fuel=4" ∷ "left=g(x0:Msg,x1:Pub)" ∷ "right=g(tamXCpair(x1:Pub,c(0)),p(2))" ∷ [])) 3650
    (bytes "PAGE 0001"
    ∷ bytes "verdict  solved"
    ∷ bytes "spent    3"
    ∷ bytes "key      x0:Msg"
    ∷ bytes "value    tamXCpair(p(2),c(0))"
    ∷ bytes "key      x1:Pub"
    ∷ bytes "value    p(2)"
    ∷ replicate 43 [])
    -- the least work area, then 12 by the length of the page, 11 before it, 4 before it
    ∷ record { sheet = text ("kind=unify" ∷ "fuel=1" ∷ []); words = 1048864; room = 3649; reply = refused (number_for ShortOutput) }
    ∷ record { sheet = text ("kind=unify" ∷ "fuel=1" ∷ []); words = 1048863; room = 3649; reply = refused (number_for ShortWorkArea) }
    ∷ record { sheet = bytes "kind=reduce\nterm=(\n"; words = 2000000; room = 0; reply = refused (number_for UnreadableTerm) }
    -- texts of 63, 64 and 126 letters
    ∷ paper (reduces 63) 3650 (bytes "PAGE 0001" ∷ (bytes "normal   " ++ letters 63) ∷ replicate 48 [])
    ∷ paper (reduces 64) 4000 (bytes "PAGE 0001" ∷ (bytes "normal   " ++ letters 63) ∷ (blanks 9 ++ letters 1) ∷ replicate 47 [])
    ∷ paper (reduces 126) 3650 (bytes "PAGE 0001" ∷ (bytes "normal   " ++ letters 63) ∷ (blanks 9 ++ letters 63) ∷ replicate 47 [])
    -- 49 lines fill a page, one more needs a second page
    ∷ paper (reduces 3087) 3650 (bytes "PAGE 0001" ∷ (bytes "normal   " ++ letters 63) ∷ replicate 48 (blanks 9 ++ letters 63))
    ∷ paper (reduces 3088) 7300
    ((bytes "PAGE 0001" ∷ (bytes "normal   " ++ letters 63) ∷ replicate 48 (blanks 9 ++ letters 63))
    ++ (bytes "PAGE 0002" ∷ (blanks 9 ++ letters 1) ∷ replicate 48 []))
    ∷ record { sheet = reduces 3088; words = 2000000; room = 7299; reply = refused (number_for ShortOutput) }
    ∷ []
