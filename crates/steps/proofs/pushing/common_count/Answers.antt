use Prim.Native.Nat.{◌<◌}
use mathlib.Core.Path.{refl}
use mathlib.Core.Logic.{inl, inr}
use native.Mathlib.Omega.{arith}
use Rattle.steps.proofs.Counting.{counting_start, counting_next, counting_end, counting_apart}
use Rattle.steps.proofs.pushing.common_count.Goals as goal

pub loop-a-init : goal.loop-a-init
loop-a-init c = counting_start c.requires.lists.0 c.requires.lists.1

pub returns-then-b-eq0 : goal.returns-then-b-eq0
returns-then-b-eq0 c = counting_apart c.loop-a.invariant c.requires.links (λ e f. omega arith) (inr c.if-b-eq0.true)

pub overflow_add-pairs : goal.overflow_add-pairs
overflow_add-pairs c = omega (arith, c.loop-a.invariant.within)

pub loop-a-smaller : goal.loop-a-smaller
loop-a-smaller c =
    let p : 0 < c.loop-a.a = omega arith in
    omega (arith, c.requires.links.next c.loop-a.a p c.loop-a.invariant.left_inside)

pub loop-a-preserved : goal.loop-a-preserved
loop-a-preserved c =
    let v = c.loop-a.invariant in
    let h = c.requires.links in
    let p : 0 < c.loop-a.a = omega arith in
    let q : 0 < c.loop-a.b = omega arith in
    counting_next v h p q (refl, h.next c.loop-a.a p v.left_inside) (refl, h.next c.loop-a.b q v.right_inside)

pub returns-then-b-ne0 : goal.returns-then-b-ne0
returns-then-b-ne0 c = counting_apart c.loop-a.invariant c.requires.links (λ e f. omega arith) (inl (omega arith))

pub returns : goal.returns
returns c = counting_end c.loop-a.invariant (omega arith) (omega arith)
