use Rattle.steps.proofs.Counting.{Counting}
use Rattle.steps.proofs.pushing.common_count.Given as goal

abbrev pub invariant-loop-a : goal.invariant-loop-a
invariant-loop-a l = Counting l.work l.free l.left l.right l.a l.b l.pairs

abbrev pub decreases-loop-a : goal.decreases-loop-a
decreases-loop-a l = l.a
