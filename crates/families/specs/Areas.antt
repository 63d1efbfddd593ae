-- The members of a sheet as one list of trees of an area, and whether one of them generalizes a value there. Definitions only.
use Rattle.std.specs.Prelude.{ℕ, ◌+◌, ◌*◌, ◌-◌, ◌<◌, ◌≤◌, ◌≡◌, List, map, length, Option, Some, None}
use Rattle.rules.specs.Maybe.{every}
use Rattle.rules.specs.Tree.{sizes, count}
use Rattle.rules.specs.Substitution.{Pair}
use Rattle.rules.specs.Sheet.{Member}
use Rattle.rules.specs.Variants.{Variant, read_member}
use Rattle.tree.specs.declared.area.Area.{Area}
use Rattle.tree.specs.Areas.{tree_in, trees_in, Grows}
use Rattle.substitution.specs.Areas.{bindings_in}
use Rattle.variables.specs.Areas.{names_in}
use Rattle.variables.specs.declared.pairing.Solution.{Solution}
use Rattle.unifier.specs.Matched.{Matched}
use Rattle.forms.specs.Members.{members_at}
use Rattle.variants.specs.Members.{texts_end}
use Rattle.families.specs.Families.{ReadAll}
use Rattle.families.specs.Generalizing.{member_of, variants_of, member_pairs, AllMatched}

-- the members from cell k on
abbrev pub variants_in : Area → ℕ → List Variant
variants_in a k = variants_of (trees_in a k)

-- the pairs by which the member of a cell generalizes: its tree at each variable of a solution against that of its bindings, and its own
-- against a value
abbrev pub general_pairs_in : Area → ℕ → Solution → ℕ → List Pair
general_pairs_in a member s value = member_pairs (names_in a s.names) (member_of (tree_in a member)) (bindings_in a s.bindings) (tree_in a value)

-- the cells before a match: the pairs of the value and of each variable
abbrev pub pairs_end : Area → ℕ → ℕ
pairs_end a names = a.free + 2 + 2 * count (trees_in a names)

-- those of the member of a cell can be matched
abbrev pub MatchedIn : Area → ℕ → Solution → ℕ → Type 0
MatchedIn a member s value = Matched a.sheet.now a.work.now (pairs_end a s.names) (general_pairs_in a member s value)

-- those of all members of the list from cell members on can
abbrev pub AllMatchedIn : Area → ℕ → Solution → ℕ → Type 0
AllMatchedIn a members s value =
    AllMatched a.sheet.now a.work.now (pairs_end a s.names) (names_in a s.names) (bindings_in a s.bindings) (tree_in a value) (trees_in a members)

-- b is a with the members at a position: the list from cell i on stands for them, the last first
pub record ReadMembersIn (a b : Area) (at i : ℕ) : Type 0 where
  pub grows : Grows a b
  pub reads : (ms : List Member) → members_at a.sheet.now at ≡ Some ms → ReadAll b.sheet.now b.work.now i ms
  pub used : b.free ≤ texts_end a.sheet.now a.free at
  pub light : sizes (trees_in b i) ≤ length a.sheet.now - at
  pub inside : i < b.free

-- or a text of one of them is unreadable
abbrev pub ReadsMembersIn : Area → Area → ℕ → Option ℕ → Type 0
ReadsMembersIn a b at (Some i) = ReadMembersIn a b at i
ReadsMembersIn a b at None = ((ms : List Member) → members_at a.sheet.now at ≡ Some ms → every (map read_member ms) ≡ None) × Grows a b
