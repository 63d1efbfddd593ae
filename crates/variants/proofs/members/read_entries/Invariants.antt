use Prim.Native.Nat.{◌-◌}
use lib.ListN.{length}
use Rattle.variants.proofs.ReadingMembers.{EnteringIn}
use Rattle.variants.proofs.members.read_entries.Given as goal

abbrev pub invariant-loop-entry : goal.invariant-loop-entry
invariant-loop-entry l = EnteringIn l.initial.area l.initial.next.at l.area l.next.at l.bindings

abbrev pub decreases-loop-entry : goal.decreases-loop-entry
decreases-loop-entry l = length l.area.sheet.now - l.next.at
