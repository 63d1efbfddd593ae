use lib.ListN.{get_or}
use Rattle.text.proofs.Decimals.{value_end, value_turn, led_none, led_zero, number_unled, number_foreign, number_over, number_is, digit_bounds}
use Rattle.text.proofs.Loops.{all_pass, all_fail, all_end}
use Rattle.rules.specs.Names.{digit}
use native.Mathlib.Omega.{arith}
use mathlib.Core.Path.{sym, ◌∙◌}
use Rattle.std.proofs.lemmas.Bool.Decides.{nat_tests}
use Rattle.text.proofs.decimal.number_up_to.Goals as goal

pub returns-then-matches : goal.returns-then-matches
returns-then-matches c =
    let s = c.args.text.now in
    number_unled c.args.bound s (grind (arith, nat_tests, led_none s, led_zero s))

pub returns-then-not-is_digit : goal.returns-then-not-is_digit
returns-then-not-is_digit c =
    let s = c.args.text.now in
    number_foreign c.args.bound s (all_fail digit s c.loop-b.b-index (omega arith) c.is_digit.ensures c.if-not-is_digit.true c.loop-b.invariant.1)

pub overflow_sub-d : goal.overflow_sub-d
overflow_sub-d c = omega (arith, digit_bounds (get_or c.args.text.now c.loop-b.b-index 0) (sym c.is_digit.ensures ∙ c.if-not-is_digit.false))

pub returns-in_err-checked_mul : goal.returns-in_err-checked_mul
returns-in_err-checked_mul c =
    let l = c.loop-b in
    let h = c.in_err-checked_mul.ensures in
    c.from_residual.ensures ∙ number_over l.n c.args.text.now l.b-index (omega arith) l.invariant.2 c.args.bound (omega arith)

pub returns-in_err-n : goal.returns-in_err-n
returns-in_err-n c =
    let l = c.loop-b in
    let h = c.in_ok-checked_mul.ensures in
    let k = c.in_err-n.ensures in
    c.from_residual-in_err-n.ensures ∙ number_over l.n c.args.text.now l.b-index (omega arith) l.invariant.2 c.args.bound (omega arith)

pub returns-then-bound-n : goal.returns-then-bound-n
returns-then-bound-n c =
    let l = c.loop-b in
    let h = c.in_ok-checked_mul.ensures in
    let k = c.in_ok-n.ensures in
    number_over l.n c.args.text.now l.b-index (omega arith) l.invariant.2 c.args.bound (omega arith)

pub loop-b-preserved : goal.loop-b-preserved
loop-b-preserved c =
    let s = c.args.text.now in
    let l = c.loop-b in
    let h = c.in_ok-checked_mul.ensures in
    let k = c.in_ok-n.ensures in
    (omega arith, all_pass digit s l.b-index (omega arith) c.is_digit.ensures c.if-not-is_digit.false l.invariant.1, value_turn l.n s l.b-index (omega arith) l.invariant.2 c.in_ok-n.n (omega arith), l.invariant.3)

pub returns : goal.returns
returns c =
    let s = c.args.text.now in
    let i = c.loop-b.invariant in
    number_is c.args.bound s i.3 (sym i.1 ∙ all_end digit s c.loop-b.b-index (omega arith)) (sym (value_end c.loop-b.n s c.loop-b.b-index (omega arith)) ∙ i.2) i.0
