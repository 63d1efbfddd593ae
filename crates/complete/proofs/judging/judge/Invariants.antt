use mathlib.Core.Path.{◌≡◌}
use Rattle.complete.proofs.JudgingIn.{GoingIn}
use Rattle.complete.proofs.judging.judge.Given as goal

abbrev pub invariant-loop-i : goal.invariant-loop-i
invariant-loop-i l = GoingIn l.initial.area l.area l.asked l.i l.state × (l.free ≡ l.initial.area.free)
