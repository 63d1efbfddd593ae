use Prim.Native.Nat.{◌-◌}
use Rattle.reading.proofs.RoundsIn.{WantsIn, HasIn}
use Rattle.reading.proofs.read.Given as goal

abbrev pub invariant-loop-delimiter : goal.invariant-loop-delimiter
invariant-loop-delimiter l = HasIn l.fn.area l.text l.initial.at l.area l.stack l.at

abbrev pub decreases-loop-delimiter : goal.decreases-loop-delimiter
decreases-loop-delimiter l = l.text.to - l.at

abbrev pub invariant-term : goal.invariant-term
invariant-term l = WantsIn l.fn.area l.text l.area l.stack l.at

abbrev pub decreases-term : goal.decreases-term
decreases-term l = l.text.to - l.at
