use Prim.Native.Nat.{◌≤◌, ◌-◌}
use lib.ListN.{length}
use Rattle.forms.specs.Members.{Gathers}
use Rattle.forms.proofs.members.gather.Given as goal

abbrev pub invariant-loop-entry : goal.invariant-loop-entry
invariant-loop-entry l = record {
  few : l.count ≤ 8191;
  all : Gathers l.sheet l.initial.cursor.at l.words l.count l.cursor.at;
}

abbrev pub decreases-loop-entry : goal.decreases-loop-entry
decreases-loop-entry l = length l.sheet - l.cursor.at
