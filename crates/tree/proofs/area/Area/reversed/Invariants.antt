use Rattle.tree.proofs.Backward.{Backward}
use Rattle.tree.proofs.area.Area.reversed.Given as goal

abbrev pub invariant-loop-k : goal.invariant-loop-k
invariant-loop-k l = Backward l.initial.self l.list l.self l.k l.first

abbrev pub decreases-loop-k : goal.decreases-loop-k
decreases-loop-k l = l.k
