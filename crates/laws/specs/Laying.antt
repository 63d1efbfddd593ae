-- What the columns of a page can hold, the keys and texts of each answer, and the lines that it takes on paper: by the lengths of its
-- texts, and counted in one pass over its bytes (02, R-1).
use Rattle.std.specs.Prelude.{ℕ, suc, ◌+◌, ◌-◌, ◌/◌, ◌≤◌, ◌≡◌, Bool, true, cond, not, ◌&&◌, List, [], ◌∷◌, ◌++◌, map, eqb, length}
use Rattle.rules.specs.Bytes.{Text}
use Rattle.rules.specs.Text.{bytes, within}
use Rattle.rules.specs.Names.{all}
use Rattle.rules.specs.Decimal.{decimal}
use Rattle.rules.specs.Writing.{render}
use Rattle.rules.specs.Substitution.{Binding}
use Rattle.rules.specs.Solving.{solved, failed, unsupported, Answer}
use Rattle.rules.specs.Sheet.{Entry}
use Rattle.rules.specs.SheetLines.{ended}

-- neither byte 10 nor a blank
abbrev pub solid : ℕ → Bool
solid b = not (eqb b 10) && not (eqb b 32)

-- nor an equals sign
abbrev pub solid_key : ℕ → Bool
solid_key b = not (eqb b 61) && solid b

-- a key of 1 to 8 such bytes
abbrev pub key_fits : Text → Bool
key_fits key = within 1 8 (length key) && all solid_key key

abbrev pub columned : Entry → Bool
columned e = key_fits e.0 && all solid e.1

unfoldable pub all_columned : List Entry → Bool
unfolding all
all_columned [] = true
all_columned (e ∷ es) = columned e && all_columned es

-- lines `key=text`
abbrev pub entry_line : Entry → Text
entry_line e = e.0 ++ 61 ∷ e.1

unfoldable pub entry_lines : List Entry → Text
unfolding ended
entry_lines es = ended (map entry_line es)

-- an answer of such lines, at least one
pub record Columned (answer : Text) : Type 0 where
  pub fields : List Entry
  pub filled : 1 ≤ length fields
  pub listed : answer ≡ entry_lines fields
  pub fit : all_columned fields ≡ true

-- `key` and `value` for each binding
unfoldable pub binding_entries : List Binding → List Entry
unfolding render
binding_entries [] = []
binding_entries (b ∷ bs) = (bytes "key", b.0) ∷ (bytes "value", render b.1) ∷ binding_entries bs

abbrev pub first_entries : Text → ℕ → List Entry → List Entry
first_entries name spent es = (bytes "verdict", name) ∷ (bytes "spent", decimal spent) ∷ es

unfoldable pub verdict_entries : Answer → List Entry
unfolding binding_entries decimal
verdict_entries (solved bs, spent) = first_entries (bytes "solved") spent (binding_entries bs)
verdict_entries (failed, spent) = first_entries (bytes "failed") spent []
verdict_entries (unsupported, spent) = first_entries (bytes "unsupported") spent []

-- the lines on paper
unfoldable pub line_count : List Entry → ℕ
line_count [] = 0
line_count (e ∷ es) = (1 + (length e.1 - 1) / 63) + line_count es

-- the lines on paper that end in these bytes: before the equals sign, or after it with so many bytes of text in the line
unfoldable mutual
  pub lines_after_key : Text → ℕ
  lines_after_key [] = 0
  lines_after_key (b ∷ s) = cond (eqb b 61) (lines_in_text 0 s) (lines_after_key s)

  pub lines_in_text : ℕ → Text → ℕ
  lines_in_text n [] = 0
  lines_in_text n (b ∷ s) = cond (eqb b 10) (suc (lines_after_key s)) (cond (eqb n 63) (suc (lines_in_text 1 s)) (lines_in_text (suc n) s))
