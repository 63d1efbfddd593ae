use Prim.Native.Nat.{◌+◌, ◌*◌}
use Rattle.rules.specs.Tree.{size, sizes}
use Rattle.tree.specs.Areas.{tree_in, trees_in}
use Rattle.substitution.proofs.ground.+ground_grounds.Given as goal

abbrev pub decreases-ground : goal.decreases-ground
decreases-ground l = 2 * size (tree_in l.area.now l.i)

abbrev pub decreases-grounds : goal.decreases-grounds
decreases-grounds l = 2 * sizes (trees_in l.area.now l.i) + 1
