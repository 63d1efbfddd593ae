use Prim.Native.Nat.{◌+◌, ◌*◌}
use Rattle.rules.specs.Tree.{size, sizes}
use Rattle.tree.specs.Areas.{tree_in, trees_in}
use Rattle.equivalence.proofs.words.+put_list_put_term.Given as goal

abbrev pub decreases-put_list : goal.decreases-put_list
decreases-put_list l = 2 * sizes (trees_in l.area.now l.i) + 1

abbrev pub decreases-put_term : goal.decreases-put_term
decreases-put_term l = 2 * size (tree_in l.area.now l.i)
