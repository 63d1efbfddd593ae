use Prim.Native.Nat.{◌+◌, ◌*◌}
use Rattle.tree.specs.Lists.{cells_left}
use Rattle.variables.proofs.Collecting.{CollectingInto}
use Rattle.variables.proofs.gathering.+gather_gather_list.Given as goal

abbrev pub decreases-gather : goal.decreases-gather
decreases-gather l = 2 * l.i

abbrev pub decreases-gather_list : goal.decreases-gather_list
decreases-gather_list l = 2 * l.list + 1

abbrev pub invariant-gather_list-loop-i : goal.invariant-gather_list-loop-i
invariant-gather_list-loop-i l = CollectingInto l.area l.initial.out l.out l.list (cells_left l.i-iterator)
