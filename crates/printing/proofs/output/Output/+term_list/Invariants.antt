use Prim.Native.Nat.{◌+◌, ◌*◌}
use Rattle.printing.proofs.output.Output.+term_list.Given as goal

abbrev pub decreases-list : goal.decreases-list
decreases-list l = 2 * l.i + 1

abbrev pub decreases-term : goal.decreases-term
decreases-term l = 2 * l.i
