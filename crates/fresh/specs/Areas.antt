-- The fresh variables and the variables of a term as cells of an area. Definitions only.
use Rattle.std.specs.Prelude.{ℕ, ◌+◌, ◌<◌, ◌≤◌, ◌^◌, ◌≡◌, List, [], map, length, Option, Some, None}
use Rattle.std.proofs.Math.Seq.{slice}
use Rattle.rules.specs.Bytes.{Text}
use Rattle.rules.specs.Tree.{variable}
use Rattle.rules.specs.Cover.{variables}
use Rattle.rules.specs.Variants.{fresh_base}
use Rattle.text.specs.Places.{text_at}
use Rattle.tree.specs.declared.area.Area.{Area}
use Rattle.tree.specs.Areas.{tree_in, Grows, Adds}
use Rattle.variables.specs.declared.gathering.Places.{Places}
use Rattle.variables.specs.Areas.{names_in, VariablesIn}
use Rattle.fresh.specs.Fresh.{chosen_in}
use Rattle.fresh.specs.declared.naming.Named.{Named}

-- the texts at places
abbrev pub texts_in : Area → Places → List Text
texts_in a p = map (text_at a.sheet.now) (slice p.from p.to a.work.now)

-- b is a with the fresh variables as 24 new cells, k the first
pub record WritesFreshIn (a b : Area) (base k : ℕ) : Type 0 where
  pub adds : Adds a b
  pub first : k ≡ a.free
  pub end : b.free ≡ a.free + 24
  pub trees : (i : ℕ) → i < 24 → tree_in b (k + i) ≡ variable (chosen_in a.sheet.now base i)

-- a list of b is that of the variables of a term of a, the last first, with one above their indices
pub record TermNamesIn (a b : Area) (term : ℕ) (r : Named) : Type 0 where
  pub grows : Grows a b
  pub names : VariablesIn b r.names
  pub are : names_in b r.names ≡ variables (tree_in a term) []
  pub used : b.free ≡ a.free + 1 + length (variables (tree_in a term) [])
  pub based : fresh_base (tree_in a term) 0 ≡ Some r.base
  pub small : r.base ≤ 2 ^ 63

-- or a variable has no index
abbrev pub NamesTermIn : Area → Area → ℕ → Option Named → Type 0
NamesTermIn a b term (Some r) = TermNamesIn a b term r
NamesTermIn a b term None = (fresh_base (tree_in a term) 0 ≡ None) × Grows a b
