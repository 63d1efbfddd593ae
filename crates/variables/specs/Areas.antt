-- The variables of trees of an area: as places above its cells, as a list of its cells, and with the trees that two lists of bindings give
-- them. Definitions only.
use Rattle.std.specs.Prelude.{ℕ, ◌+◌, ◌*◌, ◌<◌, ◌≤◌, ◌≡◌, List, [], length}
use Rattle.std.proofs.Math.Seq.{slice}
use Rattle.rules.specs.Bytes.{Text}
use Rattle.rules.specs.Tree.{sizes, count, variable_names_in}
use Rattle.tree.specs.declared.area.Area.{Area}
use Rattle.tree.specs.Areas.{trees_in, KeepsCells}
use Rattle.substitution.specs.Areas.{bindings_in, Lists}
use Rattle.variables.specs.Variables.{Variables, Ordered}
use Rattle.variables.specs.Listing.{variable_list, backwards}
use Rattle.variables.specs.Pairing.{names_at, OfVariables, paired, flatten_before}
use Rattle.variables.specs.declared.gathering.Places.{Places}
use Rattle.variables.specs.declared.pairing.Solution.{Solution}

-- the variables of the list from cell k on, the last first
abbrev pub names_in : Area → ℕ → List Text
names_in a k = names_at a.sheet.now a.work.now k

-- b has the places of the variables of the trees of a list, in byte order and each once, from a position on
pub record GathersFrom (a b : Area) (list from : ℕ) (p : Places) : Type 0 where
  pub keeps : KeepsCells a b
  pub start : p.from ≡ from
  pub ordered : Ordered a.sheet.now a.work.now b.work.now p.from p.to (sizes (trees_in a list)) (variable_names_in (trees_in a list))

-- above as many cells as the sheet has bytes
abbrev pub GathersIn : Area → Area → ℕ → Places → Type 0
GathersIn a b list p = GathersFrom a b list (4 * (a.free + length a.sheet.now)) p

-- variables stand at places above as many cells as there are of them
pub record Listable (a : Area) (p : Places) : Type 0 where
  pub grew : p.from ≤ p.to
  pub inside : p.to ≤ length a.work.now
  pub variables : Variables a.sheet.now (slice p.from p.to a.work.now)

-- b is a with the list from cell i on of the k variables xs, the last first
pub record ListsVariablesIn (a b : Area) (k : ℕ) (xs : List Text) (i : ℕ) : Type 0 where
  pub back : List Text
  pub lists : Lists a b i (variable_list back)
  pub are : backwards back [] ≡ xs
  pub used : b.free ≡ a.free + k

-- the list from cell k on is of variables and nothing else
pub record VariablesIn (a : Area) (k : ℕ) : Type 0 where
  pub inside : k < a.free
  pub variables : OfVariables (trees_in a k)

-- the variables and the bindings of a solution are lists of the area
pub record SolutionIn (a : Area) (s : Solution) : Type 0 where
  pub names : VariablesIn a s.names
  pub bindings : s.bindings < a.free

-- b is a with the list from cell i on of the pairs of the trees that bindings and a solution give its variables, before another list
pub record ValuesPairedIn (a b : Area) (values : ℕ) (s : Solution) (rest i : ℕ) : Type 0 where
  pub lists : Lists a b i (flatten_before (paired (bindings_in a values) (bindings_in a s.bindings) (names_in a s.names)) (trees_in a rest))
  pub used : b.free ≡ a.free + 2 * count (trees_in a s.names)
