use Rattle.std.proofs.Common.{◌≡◌, ◌+◌, ◌≤◌, drop}
use Rattle.rules.specs.Text.{count_of}
use Rattle.text.proofs.count_of.Given as goal

abbrev pub invariant-loop-x : goal.invariant-loop-x
invariant-loop-x l = (l.count + count_of l.b (drop l.x-index l.text) ≡ count_of l.b l.text) × (l.count ≤ l.x-index)
