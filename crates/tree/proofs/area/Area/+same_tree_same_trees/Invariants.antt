use Prim.Native.Nat.{◌+◌, ◌*◌}
use Rattle.rules.specs.Tree.{size, sizes}
use Rattle.tree.specs.Areas.{tree_in, trees_in}
use Rattle.tree.proofs.area.Area.+same_tree_same_trees.Given as goal

abbrev pub decreases-same_tree : goal.decreases-same_tree
decreases-same_tree l = 2 * size (tree_in l.self.now l.i)

abbrev pub decreases-same_trees : goal.decreases-same_trees
decreases-same_trees l = 2 * sizes (trees_in l.self.now l.i) + 1
