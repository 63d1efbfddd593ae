use Prim.Native.Nat.{◌+◌, ◌*◌}
use Rattle.rules.specs.Tree.{size, sizes}
use Rattle.tree.specs.Areas.{tree_in, trees_in}
use Rattle.substitution.proofs.occurrence.+occurs_occurs_in.Given as goal

abbrev pub decreases-occurs : goal.decreases-occurs
decreases-occurs l = 2 * size (tree_in l.area.now l.i)

abbrev pub decreases-occurs_in : goal.decreases-occurs_in
decreases-occurs_in l = 2 * sizes (trees_in l.area.now l.i) + 1
