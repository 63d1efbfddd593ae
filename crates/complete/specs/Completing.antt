-- What kind `complete` is asked: the term and the members of a sheet, and the words lent for them. Definitions only.
use Rattle.std.specs.Prelude.{ℕ, ◌+◌, ◌*◌, ◌≤◌, ◌≡◌, List, length}
use Rattle.std.specs.Prelude.{Some}
use Rattle.rules.specs.Bytes.{Text}
use Rattle.rules.specs.Text.{count_of}
use Rattle.rules.specs.Sheet.{Member, asks_complete, read_sheet, words_needed}
use Rattle.rules.specs.Reading.{parse}
use Rattle.tree.specs.Cells.{tree_at}
use Rattle.forms.specs.Members.{members_at}

-- the sheet is one of kind `complete`: its term is that of cell term, read before `at`; its members stand from `at` on. At most `named`
-- names are in a scheme.
pub record CompleteInput (s : Text) (w : List ℕ) (free term named at : ℕ) : Type 0 where
  pub text : Text
  pub members : List Member
  pub reads : read_sheet s ≡ Some (asks_complete text members)
  pub short : length s ≤ 65536
  pub parsed : parse text ≡ Some (tree_at s w term)
  pub later : members_at s at ≡ Some members
  pub inside : at ≤ length s
  pub used : free ≤ 1 + 2 * at
  pub named_is : named ≡ count_of 58 text + 2 * count_of 40 text
  pub words : words_needed s (asks_complete text members) ≤ length w
