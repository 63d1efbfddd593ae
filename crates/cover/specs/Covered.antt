-- What kind `cover` is asked: the pairs and the members of a sheet, and the words lent for them. Definitions only.
use Rattle.std.specs.Prelude.{ℕ, ◌+◌, ◌*◌, ◌≤◌, ◌≡◌, List, length}
use Rattle.std.specs.Prelude.{Some}
use Rattle.rules.specs.Bytes.{Text}
use Rattle.rules.specs.Sheet.{Entry, Member, asks_cover, read_sheet, words_needed}
use Rattle.rules.specs.Answer.{read_pairs}
use Rattle.tree.specs.Cells.{trees_at}
use Rattle.forms.specs.Members.{members_at}
use Rattle.elimination.specs.Stack.{Whole, pairs_at}

-- the sheet is one of kind `cover`: its pairs are those from cell stack on, read from the lines before `at`; its members stand from `at` on
pub record CoverInput (s : Text) (w : List ℕ) (free stack at : ℕ) : Type 0 where
  pub entries : List Entry
  pub members : List Member
  pub reads : read_sheet s ≡ Some (asks_cover entries members)
  pub short : length s ≤ 65536
  pub pairs : read_pairs entries ≡ Some (pairs_at s w stack)
  pub whole : Whole (trees_at s w stack)
  pub later : members_at s at ≡ Some members
  pub inside : at ≤ length s
  pub used : free ≤ 1 + 2 * at
  pub words : words_needed s (asks_cover entries members) ≤ length w
