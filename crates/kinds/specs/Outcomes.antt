-- What a sheet of kind `unify`, `match`, `cover` or `complete` asks, what is read of its pairs, and what is decided. Definitions only.
use Rattle.std.specs.Prelude.{ℕ, ◌≤◌, ◌≡◌, List, [], length, Option, Some, Result}
use Rattle.rules.specs.Bytes.{Text}
use Rattle.rules.specs.Substitution.{Pair}
use Rattle.rules.specs.Solving as rules
use Rattle.rules.specs.Matching.{matcher}
use Rattle.rules.specs.Maybe.{◌>>=◌}
use Rattle.rules.specs.Answer.{answer_of}
use Rattle.rules.specs.Call.{given}
use Rattle.rules.specs.declared.Refusal.{Refusal}
use Rattle.rules.specs.declared.Refusal.TheVariants.{UnreadableTerm}
use Rattle.rules.specs.RefusalNumbers.{number_for}
use Rattle.rules.specs.Sheet.{Sheet, Entry, Member, asks_cover, asks_complete, pairs, members_from, none_waiting, read_sheet, words_needed}
use Rattle.tree.specs.declared.area.Area.{Area}
use Rattle.tree.specs.Areas.{Lent}
use Rattle.sheet.specs.Lines.{lines_at}
use Rattle.sheet.specs.declared.Place.{Place}
use Rattle.forms.specs.Members.{members_at}
use Rattle.forms.specs.Form.{text_of, Inside, fewest_words}
use Rattle.forms.specs.declared.form.Solver.{Solver}
use Rattle.forms.specs.declared.form.Solver.TheVariants as solver
use Rattle.answers.specs.Deciding.{DecisionIs}
use Rattle.answers.specs.declared.deciding.Lines.{Lines}

-- an area with no cell yet, and with the words of what is read of its sheet and of one step
pub record Ready (a : Area) : Type 0 where
  pub no_cells : a.free ≡ 1
  pub short : length a.sheet.now ≤ 65536
  pub words : fewest_words a.sheet.now ≤ length a.work.now

-- n words are enough for the sheet that is read of s
abbrev pub WordsFor : Text → ℕ → Type 0
WordsFor s n = (sheet : Sheet) → read_sheet s ≡ Some sheet → words_needed s sheet ≤ n

-- the sheet asks, in one way or the other, for its pairs to be solved, which stand from a position on
pub record Asked (s : Text) (asks : ℕ → List Entry → Sheet) (fuel at : ℕ) : Type 0 where
  pub entries : List Entry
  pub lines : (lines_at s at >>= pairs) ≡ Some (entries, [])
  pub reads : read_sheet s ≡ Some (asks fuel entries)
  pub short : length s ≤ 65536
  pub fuelled : fuel ≤ 65536
  pub inside : at ≤ length s

-- the sheet asks whether its pairs, which stand from a position on, are covered by the members after them
pub record CoverAsked (s : Text) (at : ℕ) : Type 0 where
  pub entries : List Entry
  pub rest : List Text
  pub members : List Member
  pub lines : (lines_at s at >>= pairs) ≡ Some (entries, rest)
  pub later : none_waiting (members_from rest) ≡ Some members
  pub reads : read_sheet s ≡ Some (asks_cover entries members)
  pub short : length s ≤ 65536
  pub inside : at ≤ length s

-- the sheet asks whether its members, which stand from a position on, are complete for its term
pub record CompleteAsked (s : Text) (t : Place) (at : ℕ) : Type 0 where
  pub members : List Member
  pub reads : read_sheet s ≡ Some (asks_complete (text_of s t) members)
  pub later : members_at s at ≡ Some members
  pub short : length s ≤ 65536
  pub placed : Inside s t
  pub follows : t.to ≤ at
  pub inside : at ≤ length s

-- how the pairs are solved
abbrev pub solved_by : Solver → ℕ → List Pair → rules.Answer
solved_by solver.Unify = rules.unify
solved_by solver.Match = matcher

-- b is a with cells written, and d is what is decided of a sheet that was read: its answer, or 4 where there is none
pub record DecidesForm (o : Option Sheet) (a b : Area) (d : Result Lines Refusal) : Type 0 where
  pub lent : Lent a b
  pub decides : (sheet : Sheet) → o ≡ Some sheet → DecisionIs (given (answer_of sheet) (number_for UnreadableTerm)) b d
