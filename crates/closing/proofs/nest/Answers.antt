use native.Mathlib.Omega.{arith}
use Rattle.tree.proofs.Keeping.{grows_length, grows_push}
use Rattle.closing.proofs.Sums.{summing_over, summing_room, pair_count, summing_turn, summing_ends}
use Rattle.closing.proofs.nest.Goals as goal

pub returns-then-nodes-gt4096 : goal.returns-then-nodes-gt4096
returns-then-nodes-gt4096 c = summing_over c.loop-k.invariant c.loop-k-test.true c.count_of.ensures.count c.count_of-in-loop-k.ensures.count c.if-nodes-gt4096.true

pub share-pair-requires-clause-room : goal.share-pair-requires-clause-room
share-pair-requires-clause-room c = let r = summing_room c.loop-k.invariant c.loop-k-test.true c.requires.room in (omega (arith, r.0), omega (arith, r.1))

pub push_application-last-requires-clause-count : goal.push_application-last-requires-clause-count
push_application-last-requires-clause-count c = pair_count c.loop-k.invariant c.loop-k-test.true c.count_of.ensures.count c.count_of-in-loop-k.ensures.count c.if-nodes-gt4096.false c.share-pair.ensures

pub push_application-last-requires-clause-room : goal.push_application-last-requires-clause-room
push_application-last-requires-clause-room c =
    let r = summing_room c.loop-k.invariant c.loop-k-test.true c.requires.room in
    let x = c.share-pair.ensures in
    (omega (arith, r.0, x.end, grows_length (grows_push x)), omega (arith, r.1, x.end))

pub loop-k-preserved : goal.loop-k-preserved
loop-k-preserved c = summing_turn c.loop-k.invariant c.loop-k-test.true c.count_of.ensures.count c.count_of-in-loop-k.ensures.count c.if-nodes-gt4096.false c.share-pair.ensures c.args.plus c.requires.name.1 c.next_of-before.ensures.next c.next_of-before.ensures.below c.push_application-last.ensures

pub returns : goal.returns
returns c = summing_ends c.loop-k.invariant c.loop-k-test.false
