use Rattle.text.proofs.Decimals.{decimal_padded, print_turn, print_end}
use Rattle.text.specs.Printing.{printed_over}
use Rattle.rules.specs.Decimal.{decimal}
use lib.ListN.{length, length-set}
use Prim.Native.Nat.{◌+◌, ◌-◌}
use native.Mathlib.Omega.{arith}
use mathlib.Core.Path.{◌≡◌}
use Rattle.text.proofs.decimal.print.Goals as goal

pub loop-i-init : goal.loop-i-init
unfolding printed_over
loop-i-init c =
    let a = c.args in
    let e = c.width_of.ensures in
    let z : a.at + c.width_of.result - a.at ≡ length (decimal a.n) = omega arith in
    (omega arith, omega arith, rw (z, ← decimal_padded a.n, e))

pub loop-i-preserved : goal.loop-i-preserved
loop-i-preserved c =
    let l = c.loop-i in
    (omega arith, simp length-set (omega arith), print_turn l.out (printed_over c.args.out.now c.args.at (decimal c.args.n)) c.args.at l.i l.m (omega arith) (omega arith) l.invariant.2)

pub returns : goal.returns
returns c =
    let l = c.loop-i in
    record { bytes = print_end l.out (printed_over c.args.out.now c.args.at (decimal c.args.n)) c.args.at l.i l.m (omega arith) (omega arith) l.invariant.2; end = omega (arith, c.width_of.ensures) }
