use Rattle.elimination.specs.Areas.{pairs_in}
use Rattle.unifier.proofs.Taking.{HoldsIn}
use Rattle.unifier.proofs.unifying.run.Given as goal

abbrev pub invariant-loop-left : goal.invariant-loop-left
invariant-loop-left l = HoldsIn l.initial.area l.area (pairs_in l.initial.area l.stack) l.fuel l.left l.waiting l.made l.apart
