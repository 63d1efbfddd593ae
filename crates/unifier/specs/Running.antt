-- What a run needs, and what it answers. Definitions only.
use Rattle.std.specs.Prelude.{ℕ, ◌+◌, ◌*◌, List, length}
use Rattle.rules.specs.Bytes.{Text}
use Rattle.rules.specs.Substitution.{Pair}
use Rattle.laws.specs.Memory.{OverPairs, weight}
use Rattle.elimination.specs.declared.room.TheConstants.{NAME_CELLS}
use Rattle.elimination.specs.Area.{Room}

-- Room for a run of unify: two cells for each pair taken. Each binding is of one of the names: it takes 4,100 cells, leaves pairs that
-- weigh up to 4,096, and composing takes up to 4,097 for it.
pub record Roomy (w : List ℕ) (n fuel : ℕ) (ps : List Pair) : Type 0 where
  pub names : List Text
  pub over : OverPairs names ps
  pub room : Room w (n + weight ps + 2 * fuel + NAME_CELLS * length names)
