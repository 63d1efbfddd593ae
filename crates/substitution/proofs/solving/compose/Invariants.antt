use Rattle.substitution.specs.Areas.{bindings_in}
use Rattle.substitution.proofs.Chaining.{Holds}
use Rattle.substitution.proofs.solving.compose.Given as goal

abbrev pub invariant-loop-left : goal.invariant-loop-left
invariant-loop-left l = Holds l.initial.area l.area (bindings_in l.initial.area l.made) l.left l.composed

abbrev pub decreases-loop-left : goal.decreases-loop-left
decreases-loop-left l = l.left
