use Rattle.sums.proofs.Summing.{Summing}
use Rattle.sums.proofs.rebuild.Given as goal

abbrev pub invariant-loop-k : goal.invariant-loop-k
invariant-loop-k l = Summing l.initial.area l.area l.at l.end l.k l.sum
