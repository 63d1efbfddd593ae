use Rattle.elimination.specs.Areas.{pairs_in}
use Rattle.matching.proofs.Moving.{HoldsIn}
use Rattle.matching.proofs.matcher.Given as goal

abbrev pub invariant-loop-left : goal.invariant-loop-left
invariant-loop-left l = HoldsIn l.initial.area l.area (pairs_in l.initial.area l.stack) l.fuel l.left l.waiting l.made
