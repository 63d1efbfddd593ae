use Prim.Native.Nat.{◌+◌, ◌*◌}
use Rattle.rules.specs.Tree.{size, sizes}
use Rattle.tree.specs.Areas.{tree_in, trees_in}
use Rattle.sorts.proofs.+refinable_refinables.Given as goal

abbrev pub decreases-refinable : goal.decreases-refinable
decreases-refinable l = 2 * size (tree_in l.area.now l.i)

abbrev pub decreases-refinables : goal.decreases-refinables
decreases-refinables l = 2 * sizes (trees_in l.area.now l.i) + 1
