use native.Mathlib.Omega.{arith}
use Rattle.forms.proofs.KeyLaws.{count_end, count_missing, count_repeats, count_turn, count_later}
use Rattle.forms.proofs.members.count_members.Goals as goal

pub returns-in_err-member : goal.returns-in_err-member
returns-in_err-member c = rw c.from_residual.ensures (count_missing _ _ _ c.loop-cursor.invariant.rest c.loop-cursor-test.true c.in_err-member.ensures)

pub returns-then-not-all_distinct : goal.returns-then-not-all_distinct
returns-then-not-all_distinct c =
    count_repeats _ _ _ c.loop-cursor.invariant.rest _ c.in_ok-member.ensures c.gather-keys.ensures c.all_distinct.ensures c.if-not-all_distinct.true

pub loop-cursor-smaller : goal.loop-cursor-smaller
loop-cursor-smaller c = omega (arith, count_later _ _ _ c.loop-cursor.invariant.rest _ c.in_ok-member.ensures c.gather-keys.ensures c.all_distinct.ensures)

pub loop-cursor-preserved : goal.loop-cursor-preserved
loop-cursor-preserved c =
    let later = count_later _ _ _ c.loop-cursor.invariant.rest _ c.in_ok-member.ensures c.gather-keys.ensures c.all_distinct.ensures in
    record {
      few = omega arith;
      rest = count_turn _ _ _ c.loop-cursor.invariant.rest _ c.in_ok-member.ensures c.gather-keys.ensures c.all_distinct.ensures c.if-not-all_distinct.false;
    }

pub returns : goal.returns
returns c = count_end _ _ _ c.loop-cursor.invariant.rest c.loop-cursor-test.false
