use Rattle.sums.proofs.Removing.{Striking}
use Rattle.sums.proofs.striking.strike_each.Given as goal

abbrev pub invariant-loop-p : goal.invariant-loop-p
invariant-loop-p l = Striking l.area l.fn.lefts l.fn.rights l.lefts l.rights l.cancelling l.p
