use Prim.Native.Nat.{◌-◌}
use lib.ListN.{length}
use Rattle.families.proofs.GatheringIn.{GatheringIn}
use Rattle.families.proofs.members.read_members.Given as goal

abbrev pub invariant-loop-cursor : goal.invariant-loop-cursor
invariant-loop-cursor l = GatheringIn l.initial.area l.area l.initial.cursor.at l.cursor.at l.list

abbrev pub decreases-loop-cursor : goal.decreases-loop-cursor
decreases-loop-cursor l = length l.area.sheet.now - l.cursor.at
