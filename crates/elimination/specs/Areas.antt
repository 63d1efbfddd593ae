-- What taking a pair does to the stack of an area. Definitions only.
use Rattle.std.specs.Prelude.{ℕ, ◌+◌, ◌<◌, ◌≤◌, ◌≡◌, false, List, Option, Some, None, Result, Ok, Err}
use Rattle.rules.specs.Bytes.{Text}
use Rattle.rules.specs.Tree.{Tree, variable}
use Rattle.rules.specs.Substitution.{Pair, flatten, size_pairs}
use Rattle.rules.specs.declared.Ending.{Ending}
use Rattle.rules.specs.declared.Ending.TheVariants as ending
use Rattle.rules.specs.Solving.{Step, goes_on, bind, fails, unknown}
use Rattle.laws.specs.Memory.{weight}
use Rattle.tree.specs.declared.area.Area.{Area}
use Rattle.tree.specs.Areas.{tree_in, trees_in, CellIn, Grows}
use Rattle.elimination.specs.Stack.{pairs_of}
use Rattle.elimination.specs.Differing.{all_same}
use Rattle.elimination.specs.declared.Taken.{Taken}
use Rattle.elimination.specs.declared.Taken.TheVariants as taken

-- the pairs from cell k on
abbrev pub pairs_in : Area → ℕ → List Pair
pairs_in a k = pairs_of (trees_in a k)

-- one of the first so many pairs has two different trees
abbrev pub ApartIn : Option ℕ → List Pair → Type 0
ApartIn None ps = Unit {0}
ApartIn (Some k) ps = all_same k ps ≡ false

-- b is a with more cells, and the waiting pairs ps are the list from cell st on
pub record WaitsIn (a b : Area) (st : ℕ) (ps : List Pair) : Type 0 where
  pub grows : Grows a b
  pub inside : st < b.free
  pub trees : trees_in b st ≡ flatten ps

-- the step d leaves pairs; those before it weighed h, and it takes two cells more than their weight falls; k is as in Apart
pub record GoesOnIn (a b : Area) (h : ℕ) (d : Step) (st : ℕ) (k : Option ℕ) : Type 0 where
  pub pairs : List Pair
  pub is : d ≡ goes_on pairs
  pub waits : WaitsIn a b st pairs
  pub used : b.free + weight pairs ≤ a.free + h + 2
  pub apart : ApartIn k pairs

-- the step d binds the variable of cell key to the tree of cell value
pub record BindsIn (a b : Area) (d : Step) (key value st : ℕ) : Type 0 where
  pub name : Text
  pub tree : Tree
  pub pairs : List Pair
  pub is : d ≡ bind name tree pairs
  pub waits : WaitsIn a b st pairs
  pub cells : CellIn b key × CellIn b value
  pub key_is : tree_in b key ≡ variable name
  pub value_is : tree_in b value ≡ tree
  pub small : size_pairs pairs ≤ 4096
  pub used : b.free ≤ a.free + 4098

-- the step that ends a run
abbrev pub last_step : Ending → Step
last_step ending.Failed = fails
last_step ending.Unsupported = unknown

abbrev pub TakenIn : Area → Area → ℕ → Step → Result Taken Ending → Type 0
TakenIn a b h d (Ok (taken.Next n)) = GoesOnIn a b h d n.stack n.apart
TakenIn a b h d (Ok (taken.Bind key value st)) = BindsIn a b d key value st
TakenIn a b h d (Err e) = (d ≡ last_step e) × Grows a b
