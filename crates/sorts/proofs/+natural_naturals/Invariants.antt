use Prim.Native.Nat.{◌+◌, ◌*◌}
use Rattle.rules.specs.Tree.{size, sizes}
use Rattle.tree.specs.Areas.{tree_in, trees_in}
use Rattle.sorts.proofs.+natural_naturals.Given as goal

abbrev pub decreases-natural : goal.decreases-natural
decreases-natural l = 2 * size (tree_in l.area.now l.i)

abbrev pub decreases-naturals : goal.decreases-naturals
decreases-naturals l = 2 * sizes (trees_in l.area.now l.i) + 1
