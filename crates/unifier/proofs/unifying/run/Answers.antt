use native.Mathlib.Omega.{arith}
use Rattle.std.proofs.Common.{rules}
use Rattle.elimination.proofs.Tops.{whole_are}
use Rattle.unifier.proofs.Taking.{holds_start, holds_solved, holds_spent, step_fit_front, step_room, step_apart, bind_cells, bind_room, holds_over, holds_next, holds_bind}
use Rattle.unifier.proofs.unifying.run.Goals as goal

pub loop-left-init : goal.loop-left-init
loop-left-init c = holds_start c.requires.stack.0 c.requires.stack.1 c.requires.stack.2 c.requires.room

pub top-requires : goal.top-requires
top-requires c = let h = c.loop-left.invariant in (h.stack, whole_are h.ps h.waits)

pub returns-in_default : goal.returns-in_default
returns-in_default c = holds_solved c.loop-left.invariant c.loop-left-test.true c.in_default.ensures

pub step-requires : goal.step-requires
step-requires c =
    let h = c.loop-left.invariant in
    let f = c.in-Some.front in
    let t = c.in-Some.ensures in
    let q = c.loop-left-test.true in
    record { front = t.0; fit = step_fit_front h f t.1 q; room = step_room h f t.1 q; differing = step_apart h f t.1 q }

pub returns-in-Err : goal.returns-in-Err
returns-in-Err c = holds_over c.loop-left.invariant c.in-Some.front c.in-Some.ensures.1 c.loop-left-test.true c.in-Err.ending c.in-Err.ensures

pub push_pair-made-requires : goal.push_pair-made-requires
push_pair-made-requires c =
    let h = c.loop-left.invariant in
    let f = c.in-Some.front in
    let t = c.in-Some.ensures.1 in
    let q = c.loop-left-test.true in
    let g = rw c.in-Ok-Bind.field-0-is at c.in-Ok-Bind.ensures in
    rw c.in-Ok-Bind.field-0-is (record { cells = bind_cells h f t q g; room = bind_room h f t q g })

pub loop-left-preserved-in-Ok-Next : goal.loop-left-preserved-in-Ok-Next
loop-left-preserved-in-Ok-Next c =
    let g = rw c.in-Ok-Next.field-0-is at c.in-Ok-Next.ensures in
    rw c.in-Ok-Next.field-0-is (holds_next c.loop-left.invariant c.in-Some.front c.in-Some.ensures.1 c.loop-left-test.true g)

pub loop-left-preserved : goal.loop-left-preserved
loop-left-preserved c =
    let l = c.push_pair-made.ensures in
    holds_bind c.loop-left.invariant c.in-Some.front c.in-Some.ensures.1 c.loop-left-test.true (search rules) l.lists l.end

pub returns : goal.returns
returns c = holds_spent c.loop-left.invariant (omega (arith, c.loop-left-test.false))
