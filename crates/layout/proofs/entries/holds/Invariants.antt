use Rattle.std.proofs.Common.{◌≡◌, drop, nat_lt}
use mathlib.Core.Bool.{◌||◌}
use Rattle.rules.specs.Text.{count_of}
use Rattle.layout.proofs.entries.holds.Given as goal

abbrev pub invariant-loop-x : goal.invariant-loop-x
invariant-loop-x l = l.found || nat_lt 0 (count_of l.b (drop l.x-index l.text)) ≡ nat_lt 0 (count_of l.b l.text)
