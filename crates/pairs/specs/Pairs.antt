-- The pairs of lines `left`, `right` of a sheet: the room that they take, and where they stand. Definitions only.
use Rattle.std.specs.Prelude.{ℕ, ◌+◌, ◌*◌, ◌-◌, ◌≡◌, List, Some}
use Rattle.rules.specs.Bytes.{Text}
use Rattle.rules.specs.Maybe.{◌>>=◌}
use Rattle.rules.specs.Sheet.{Entry, pairs}
use Rattle.sheet.specs.Lines.{lines_at}
use Rattle.sheet.specs.declared.Place.{Place}

-- the cells end at most here after a pair: two for each byte of its sides, and two for the list
abbrev pub pair_end : ℕ → Place → Place → ℕ
pair_end free l r = free + 2 * (l.to - l.from) + 2 * (r.to - r.from) + 2

-- es are the pairs from a position on, and rest the lines after them
abbrev pub PairsFrom : Text → ℕ → List Entry → List Text → Type 0
PairsFrom s at es rest = (lines_at s at >>= pairs) ≡ Some (es, rest)

-- the lines from a position on start with pairs
pub record PairsThere (s : Text) (at : ℕ) : Type 0 where
  pub entries : List Entry
  pub rest : List Text
  pub lines : PairsFrom s at entries rest
