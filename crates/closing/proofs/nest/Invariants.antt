use Rattle.closing.proofs.Sums.{Summing}
use Rattle.closing.proofs.nest.Given as goal

abbrev pub invariant-loop-k : goal.invariant-loop-k
invariant-loop-k l = Summing l.initial.area l.tail l.chain l.area l.last l.k

abbrev pub decreases-loop-k : goal.decreases-loop-k
decreases-loop-k l = l.k
