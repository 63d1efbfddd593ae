use Prim.Native.Nat.{◌-◌}
use lib.ListN.{length}
use Rattle.pairs.proofs.ReadingPairs.{ReadingIn}
use Rattle.pairs.proofs.read_reversed.Given as goal

abbrev pub invariant-loop-pair : goal.invariant-loop-pair
invariant-loop-pair l = ReadingIn l.initial.area l.initial.next.at l.area l.next.at l.stack

abbrev pub decreases-loop-pair : goal.decreases-loop-pair
decreases-loop-pair l = length l.area.sheet.now - l.next.at
