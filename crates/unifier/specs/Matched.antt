-- Pairs that can be matched with the fuel and the room there are. Definitions only.
use Rattle.std.specs.Prelude.{ℕ, ◌+◌, ◌*◌, ◌<◌, List, length}
use Rattle.rules.specs.Bytes.{Text}
use Rattle.rules.specs.Substitution.{Pair}
use Rattle.laws.specs.Memory.{weight, pattern_nodes}
use Rattle.elimination.specs.Stack.{FitPairs}
use Rattle.elimination.specs.Area.{Room}

-- the pairs are fit, have fewer pattern nodes than the sheet has bytes, and there is room for n cells and their match
pub record Matched (s : Text) (w : List ℕ) (n : ℕ) (qs : List Pair) : Type 0 where
  pub fit : FitPairs qs
  pub few : pattern_nodes qs < length s
  pub room : Room w (n + weight qs + 2 * length s)
