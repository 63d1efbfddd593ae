-- What taking a pair of `match` does to the stack and the bindings of an area. Definitions only.
use Rattle.std.specs.Prelude.{ℕ, ◌+◌, ◌<◌, ◌≤◌, ◌≡◌, List, Result, Ok, Err}
use Rattle.rules.specs.Substitution.{Binding, Pair}
use Rattle.rules.specs.Matching.{Move, onward, clash, beyond}
use Rattle.rules.specs.declared.Ending.{Ending}
use Rattle.rules.specs.declared.Ending.TheVariants as ending
use Rattle.laws.specs.Memory.{weight}
use Rattle.tree.specs.declared.area.Area.{Area}
use Rattle.tree.specs.Areas.{trees_in, Grows}
use Rattle.substitution.specs.Bindings.{flatten_bindings, Chain}
use Rattle.substitution.specs.Areas.{bindings_in}
use Rattle.elimination.specs.Stack.{FitBindings}
use Rattle.elimination.specs.Areas.{WaitsIn}
use Rattle.moving.specs.declared.Onward.{Onward}

-- the bindings made so far
abbrev pub MadeIn : Area → ℕ → Type 0
MadeIn a k = (k < a.free) × Chain (trees_in a k)

abbrev pub FitMade : Area → ℕ → Type 0
FitMade a k = FitBindings (bindings_in a k)

-- the move d leaves pairs and bindings; the pairs before it weighed h, and it takes two cells more than their weight falls
pub record OnwardsIn (a b : Area) (h : ℕ) (d : Move) (st k : ℕ) : Type 0 where
  pub pairs : List Pair
  pub bindings : List Binding
  pub is : d ≡ onward pairs bindings
  pub waits : WaitsIn a b st pairs
  pub list_inside : k < b.free
  pub list : trees_in b k ≡ flatten_bindings bindings
  pub used : b.free + weight pairs ≤ a.free + h + 2

-- the move that ends a run
abbrev pub last_move : Ending → Move
last_move ending.Failed = clash
last_move ending.Unsupported = beyond

abbrev pub MovesIn : Area → Area → ℕ → Move → Result Onward Ending → Type 0
MovesIn a b h d (Ok o) = OnwardsIn a b h d o.stack o.bindings
MovesIn a b h d (Err e) = (d ≡ last_move e) × Grows a b
