-- What kind `cover` is asked, whether members cover, and what it claims, in an area. Definitions only.
use Rattle.std.specs.Prelude.{ℕ, ◌+◌, ◌*◌, ◌-◌, ◌≡◌, List, length, Bool, true, Option, Some, None}
use Rattle.rules.specs.Bytes.{Text}
use Rattle.rules.specs.Tree.{count}
use Rattle.rules.specs.Sheet.{Entry, Member}
use Rattle.rules.specs.Cover.{variables_of, covers, any_covers, covered}
use Rattle.tree.specs.declared.area.Area.{Area}
use Rattle.tree.specs.Areas.{trees_in, Grows}
use Rattle.substitution.specs.Areas.{bindings_in}
use Rattle.sheet.specs.declared.Cursor.{Cursor}
use Rattle.forms.specs.Members.{members_at, EntriesFrom}
use Rattle.elimination.specs.Areas.{pairs_in}
use Rattle.variables.specs.Areas.{names_in, VariablesIn}
use Rattle.variables.specs.declared.pairing.Solution.{Solution}
use Rattle.cover.specs.Covering.{Matchable, AllMatchable, Uncovered}
use Rattle.cover.specs.Covered.{CoverInput}

-- the cells of the pairs of a member with the entries from `at` on end at most here
abbrev pub member_end_in : Area → ℕ → ℕ → ℕ
member_end_in a names at = a.free + 2 * (length a.sheet.now - at) + 2 * count (trees_in a names)

-- the pairs of the member with the entries from a position on can be matched
abbrev pub MatchableIn : Area → Solution → ℕ → Type 0
MatchableIn a s at = Matchable a.sheet.now a.work.now (member_end_in a s.names at) s.names s.bindings at

-- those of all members from a position on can
abbrev pub AllMatchableIn : Area → Solution → ℕ → Type 0
AllMatchableIn a s at = AllMatchable a.sheet.now a.work.now (member_end_in a s.names at) s.names s.bindings at

-- the member with the entries from `at` on covers; or it does not, and its entries end at a cursor
abbrev pub PassesMemberIn : Area → Area → Solution → ℕ → Option Cursor → Type 0
PassesMemberIn a b s at None =
    ((x : Text) (es : List Entry) → EntriesFrom a.sheet.now at es → covers (names_in a s.names) (bindings_in a s.bindings) (x, es) ≡ true) × Grows a b
PassesMemberIn a b s at (Some c) = Uncovered a.sheet.now a.work.now s.names s.bindings at c.at × Grows a b

-- whether one of the members from `at` on covers
abbrev pub CoversAnyIn : Area → Area → Solution → ℕ → Bool → Type 0
CoversAnyIn a b s at r = ((ms : List Member) → members_at a.sheet.now at ≡ Some ms → r ≡ any_covers (names_in a s.names) (bindings_in a s.bindings) ms) × Grows a b

-- b is a with more cells: the list from cell i on is that of the variables of the pairs, the last first
pub record NamesIn (a b : Area) (stack i : ℕ) : Type 0 where
  pub grows : Grows a b
  pub names : VariablesIn b i
  pub are : names_in b i ≡ variables_of (pairs_in a stack)
  pub used : b.free ≡ a.free + count (trees_in b i)

-- the sheet is one of kind `cover`: its pairs are those from cell stack on, its members stand from `at` on
abbrev pub CoverInputIn : Area → ℕ → ℕ → Type 0
CoverInputIn a stack at = CoverInput a.sheet.now a.work.now a.free stack at

-- b is a with more cells, and r says whether one of the members from `at` on covers the solution of the pairs
pub record ClaimsCoveredIn (a b : Area) (stack at : ℕ) (r : Option Bool) : Type 0 where
  pub grows : Grows a b
  pub claim : (ms : List Member) → members_at a.sheet.now at ≡ Some ms → r ≡ covered (pairs_in a stack) ms
