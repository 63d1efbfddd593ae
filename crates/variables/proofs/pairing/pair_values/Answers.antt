use Prim.Native.Nat.{◌<◌}
use native.Mathlib.Omega.{arith}
use Rattle.variables.proofs.Pairs.{pairs_starts, pairs_ends, pairs_variable, pairs_room, pairs_turn}
use Rattle.variables.proofs.pairing.pair_values.Goals as goal

pub loop-k-init : goal.loop-k-init
loop-k-init c =
    pairs_starts c.args.area.now c.args.values c.args.solution c.args.rest c.requires.solution c.requires.links.1

pub image-left-requires-clause-x_cell : goal.image-left-requires-clause-x_cell
image-left-requires-clause-x_cell c =
    let h = c.loop-k.invariant in
    let p : 0 < c.loop-k.k = omega (arith, c.loop-k-test.true) in
    ((p, omega (arith, h.left, h.lists.adds.grew)), pairs_variable h p)

pub image-right-requires-clause-x_cell : goal.image-right-requires-clause-x_cell
image-right-requires-clause-x_cell c =
    let h = c.loop-k.invariant in
    let p : 0 < c.loop-k.k = omega (arith, c.loop-k-test.true) in
    ((p, omega (arith, h.left, h.lists.adds.grew)), pairs_variable h p)

pub push_pair-list-requires-clause-room : goal.push_pair-list-requires-clause-room
push_pair-list-requires-clause-room c =
    let h = c.loop-k.invariant in
    let r = pairs_room h (omega (arith, c.loop-k-test.true)) in
    (omega (arith, r, h.lists.adds.grown.len, c.requires.room.0), omega (arith, r, c.requires.room.1))

pub loop-k-preserved : goal.loop-k-preserved
loop-k-preserved c =
    let p : 0 < c.loop-k.k = omega (arith, c.loop-k-test.true) in
    pairs_turn c.loop-k.invariant p c.image-left.result c.image-right.result c.requires.links.0 c.requires.solution.bindings c.image-left.ensures.value c.image-right.ensures.value c.push_pair-list.ensures.lists c.push_pair-list.ensures.end c.next_of-k.ensures.next

pub returns : goal.returns
returns c = pairs_ends c.loop-k.invariant (omega (arith, c.loop-k-test.false))
