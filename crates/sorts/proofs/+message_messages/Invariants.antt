use Prim.Native.Nat.{◌+◌, ◌*◌}
use Rattle.rules.specs.Tree.{size, sizes}
use Rattle.tree.specs.Areas.{tree_in, trees_in}
use Rattle.sorts.proofs.+message_messages.Given as goal

abbrev pub decreases-message : goal.decreases-message
decreases-message l = 2 * size (tree_in l.area.now l.i)

abbrev pub decreases-messages : goal.decreases-messages
decreases-messages l = 2 * sizes (trees_in l.area.now l.i) + 1
