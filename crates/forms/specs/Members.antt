-- The members of a sheet from a position on, and their keys. Definitions only.
use Rattle.std.specs.Prelude.{ℕ, ◌+◌, ◌*◌, ◌≤◌, ◌≡◌, List, [], ◌∷◌, map, Bool, true, not, ◌&&◌, length, take}
use Rattle.std.specs.Prelude.{Option, Some, None, option_map}
use Rattle.rules.specs.Bytes.{Text, same}
use Rattle.rules.specs.Text.{bytes, is_one_of}
use Rattle.rules.specs.Maybe.{◌>>=◌}
use Rattle.rules.specs.Sheet.{Entry, Member, members_from, none_waiting}
use Rattle.text.specs.Places.{text_at}
use Rattle.sheet.specs.Lines.{lines_at}
use Rattle.sheet.specs.Pairs.{two_lines_at, entries_by, entries_before}

unfoldable pub members_at : Text → ℕ → Option (List Member)
members_at s at = lines_at s at >>= λ ls. none_waiting (members_from ls)

-- es are the entries from a position on, and rest the lines after them
abbrev pub EntriesThen : Text → ℕ → List Entry → List Text → Type 0
EntriesThen s at es rest = (lines_at s at >>= entries_by (bytes "key=") (bytes "value=")) ≡ Some (es, rest)

-- es are the entries from a position on
abbrev pub EntriesFrom : Text → ℕ → List Entry → Type 0
EntriesFrom s at es = (rest : List Text) × EntriesThen s at es rest

-- entries stand from a position on, or none, and then other lines
pub record EntriesThere (s : Text) (at : ℕ) : Type 0 where
  pub entries : List Entry
  pub are : EntriesFrom s at entries

-- how many members there are after n others, if they read
abbrev pub counted : ℕ → Option (List Member) → Option ℕ
counted n o = option_map (λ (ms : List Member). n + length ms) o

abbrev pub keys_of : List Entry → List Text
keys_of es = map (λ (e : Entry). e.0) es

-- no text twice
unfoldable pub distinct : List Text → Bool
unfolding is_one_of
distinct [] = true
distinct (k ∷ ks) = not (is_one_of ks k) && distinct ks

-- no text next to itself
unfoldable pub apart : List Text → Bool
unfolding same
apart [] = true
apart (a ∷ []) = true
apart (a ∷ b ∷ l) = not (same a b) && apart (b ∷ l)

-- pairs of lines that were walked over from `at` to c
pub record Walks (first second s : Text) (at c : ℕ) : Type 0 where
  pub es : List Entry
  pub chain : (lines_at s at >>= entries_by first second) ≡ ((lines_at s c >>= entries_by first second) >>= entries_before es)
  pub low : at ≤ c
  pub high : at ≤ length s → c ≤ length s

-- the first words are the places of the keys from `at` to c
pub record Gathers (s : Text) (at : ℕ) (words : List ℕ) (count c : ℕ) : Type 0 where
  pub walk : Walks (bytes "key=") (bytes "value=") s at c
  pub texts : map (text_at s) (take count words) ≡ keys_of walk.es
  pub few : 12 * count + at ≤ c

-- and no more of them follow
pub record Gathered (s : Text) (at : ℕ) (words : List ℕ) (count c : ℕ) : Type 0 where
  pub all : Gathers s at words count c
  pub stops : None ≡ two_lines_at (bytes "key=") (bytes "value=") s c
  pub room : count ≤ 8192
