use lib.ListN.{drop}
use mathlib.Core.Bool.{true}
use Rattle.text.proofs.Decimals.{led}
use Rattle.rules.specs.Decimal.{value_from}
use Rattle.rules.specs.Names.{digit, all}
use Prim.Native.Nat.{◌≤◌}
use mathlib.Core.Path.{◌≡◌}
use Rattle.text.proofs.decimal.number_up_to.Given as goal

abbrev pub invariant-loop-b : goal.invariant-loop-b
invariant-loop-b l = (l.n ≤ l.bound) × (all digit (drop l.b-index l.text) ≡ all digit l.text) × (value_from l.n (drop l.b-index l.text) ≡ value_from 0 l.text) × (led l.text ≡ true)
