use Rattle.text.proofs.Decimals.{padded}
use Rattle.text.specs.Printing.{printed_over}
use Rattle.rules.specs.Decimal.{decimal}
use mathlib.Core.List.{◌++◌}
use lib.ListN.{length, take, drop}
use Prim.Native.Nat.{◌≤◌, ◌-◌}
use mathlib.Core.Path.{◌≡◌}
use Rattle.text.proofs.decimal.print.Given as goal

abbrev pub invariant-loop-i : goal.invariant-loop-i
invariant-loop-i l = (l.at ≤ l.i) × (l.i ≤ length l.out) × (take l.at l.out ++ (padded (l.i - l.at) l.m ++ drop l.i l.out) ≡ printed_over l.initial.out l.at (decimal l.n))
