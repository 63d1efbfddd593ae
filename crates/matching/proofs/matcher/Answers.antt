use native.Mathlib.Omega.{arith}
use Rattle.elimination.proofs.Tops.{whole_are}
use Rattle.matching.proofs.Moving.{holds_start, holds_solved, holds_spent, move_made, move_fits, move_room, holds_over, holds_onward}
use Rattle.matching.proofs.matcher.Goals as goal

pub loop-left-init : goal.loop-left-init
loop-left-init c = holds_start c.requires.stack.0 c.requires.stack.1 c.requires.stack.2 c.requires.room

pub top-requires : goal.top-requires
top-requires c = let h = c.loop-left.invariant in (h.stack, whole_are h.ps h.waits)

pub returns-in_default : goal.returns-in_default
returns-in_default c = holds_solved c.loop-left.invariant c.loop-left-test.true c.in_default.ensures

pub advance-requires : goal.advance-requires
advance-requires c =
    let h = c.loop-left.invariant in
    let f = c.in-Some.front in
    let t = c.in-Some.ensures in
    let q = c.loop-left-test.true in
    record { front = t.0; made = move_made h f t.1 q; fit = move_fits h f t.1 q; room = move_room h f t.1 q }

pub returns-in-Err : goal.returns-in-Err
returns-in-Err c = holds_over c.loop-left.invariant c.in-Some.front c.in-Some.ensures.1 c.loop-left-test.true c.in-Err.ending c.in-Err.ensures

pub loop-left-preserved : goal.loop-left-preserved
loop-left-preserved c = holds_onward c.loop-left.invariant c.in-Some.front c.in-Some.ensures.1 c.loop-left-test.true c.in-Ok.ensures

pub returns : goal.returns
returns c = holds_spent c.loop-left.invariant (omega (arith, c.loop-left-test.false))
