use native.Mathlib.Omega.{arith}
use Rattle.substitution.proofs.Chaining.{holds_start, holds_end, holds_value, holds_room, holds_over, holds_turn}
use Rattle.substitution.proofs.solving.compose.Goals as goal

pub loop-left-init : goal.loop-left-init
loop-left-init c = holds_start c.args.area.now c.args.made c.requires.chain.0 c.requires.chain.1

pub next_of-rest-requires : goal.next_of-rest-requires
next_of-rest-requires c =
    let h = c.loop-left.invariant in
    (holds_value h c.next_of-value.result (omega arith) c.next_of-value.ensures.next, omega (arith, h.left, h.adds.grew))

pub substitute-requires-clause-room : goal.substitute-requires-clause-room
substitute-requires-clause-room c =
    let h = c.loop-left.invariant in
    let room = holds_room h c.next_of-value.result (omega arith) c.next_of-value.ensures.next c.next_of-rest.result c.next_of-rest.ensures.next in
    (omega (arith, room, h.adds.grown.len), omega (arith, room))

pub returns-in_err-built : goal.returns-in_err-built
returns-in_err-built c =
    rw c.from_residual.ensures (holds_over c.loop-left.invariant c.next_of-value.result (omega arith) c.next_of-value.ensures.next c.next_of-rest.result c.next_of-rest.ensures.next c.in_err-built.ensures)

pub share-composed-requires-clause-room : goal.share-composed-requires-clause-room
share-composed-requires-clause-room c =
    let h = c.loop-left.invariant in
    let g = c.in_ok-built.ensures in
    let room = holds_room h c.next_of-value.result (omega arith) c.next_of-value.ensures.next c.next_of-rest.result c.next_of-rest.ensures.next in
    (omega (arith, room, h.adds.grown.len, g.puts.adds.grown.len, g.used), omega (arith, room, g.used))

pub loop-left-preserved : goal.loop-left-preserved
loop-left-preserved c =
    holds_turn c.loop-left.invariant c.next_of-value.result (omega arith) c.next_of-value.ensures.next c.next_of-rest.result c.next_of-rest.ensures.next c.in_ok-built.ensures c.share-composed.ensures

pub returns : goal.returns
returns c = holds_end c.loop-left.invariant c.loop-left-test.false
