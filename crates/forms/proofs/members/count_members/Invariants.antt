use mathlib.Core.Path.{◌≡◌}
use Prim.Native.Nat.{◌≤◌, ◌-◌}
use lib.ListN.{length}
use Rattle.forms.specs.Members.{members_at, counted}
use Rattle.forms.proofs.members.count_members.Given as goal

abbrev pub invariant-loop-cursor : goal.invariant-loop-cursor
invariant-loop-cursor l = record {
  few : l.n ≤ l.cursor.at;
  rest : counted l.n (members_at l.sheet l.cursor.at) ≡ counted 0 (members_at l.sheet l.initial.cursor.at);
}

abbrev pub decreases-loop-cursor : goal.decreases-loop-cursor
decreases-loop-cursor l = length l.sheet - l.cursor.at
