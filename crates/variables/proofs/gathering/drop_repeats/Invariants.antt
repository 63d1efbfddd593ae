use Rattle.variables.proofs.Dropping.{Dropping}
use Rattle.variables.proofs.gathering.drop_repeats.Given as goal

abbrev pub invariant-loop-i : goal.invariant-loop-i
invariant-loop-i l = Dropping l.sheet l.initial.places l.places l.i l.kept
