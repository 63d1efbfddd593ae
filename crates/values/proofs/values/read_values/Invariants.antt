use Prim.Native.Nat.{◌-◌}
use lib.ListN.{length}
use Rattle.values.proofs.ValueLaws.{WalkingIn}
use Rattle.values.proofs.values.read_values.Given as goal

abbrev pub invariant-loop-entry : goal.invariant-loop-entry
invariant-loop-entry l = WalkingIn l.initial.area l.area l.names l.initial.cursor.at l.cursor l.bindings

abbrev pub decreases-loop-entry : goal.decreases-loop-entry
decreases-loop-entry l = length l.initial.area.sheet.now - l.cursor.at
