use Prim.Native.Nat.{◌<◌}
use native.Mathlib.Omega.{arith}
use Rattle.elimination.proofs.Tops.{stack_empty, right_some, rest_whole, top_pair}
use Rattle.elimination.proofs.front.Front.top.Goals as goal

pub returns-then-stack-eq0 : goal.returns-then-stack-eq0
returns-then-stack-eq0 c = stack_empty c.args.area.now c.args.stack c.if-stack-eq0.true

pub next_of-rest-requires : goal.next_of-rest-requires
next_of-rest-requires c =
    let h = c.requires in
    let e = c.next_of-right.ensures in
    (right_some c.args.area.now c.args.stack c.next_of-right.result (omega arith) h.0 e.next h.1, omega (arith, h.0, e.below))

pub returns : goal.returns
returns c =
    let a = c.args.area.now in
    let s = c.args.stack in
    let h = c.requires in
    let e = c.next_of-right.ensures in
    let f = c.next_of-rest.ensures in
    let r = c.next_of-right.result in
    let p : 0 < s = omega arith in
    let q : r < a.free = omega (arith, h.0, e.below) in
    let k = right_some a s r p h.0 e.next h.1 in
    (((p, h.0), (k, q), omega (arith, q, f.below), rest_whole a s r p h.0 e.next h.1 c.next_of-rest.result q f.next), top_pair a s r p h.0 e.next h.1 c.next_of-rest.result q f.next)
