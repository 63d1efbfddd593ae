use Prim.Native.Nat.{◌+◌, ◌-◌}
use mathlib.Core.Path.{◌≡◌}
use lib.ListN.{length, drop}
use Rattle.rules.specs.Tokens.{run_length}
use Rattle.syntax.proofs.run_end.Given as goal

abbrev pub invariant-loop-end : goal.invariant-loop-end
invariant-loop-end g l = l.end + run_length g.C.Class.has (drop l.end l.text) ≡ l.at + run_length g.C.Class.has (drop l.at l.text)

abbrev pub decreases-loop-end : goal.decreases-loop-end
decreases-loop-end g l = length l.text - l.end
