use native.Mathlib.Omega.{arith}
use Rattle.tree.proofs.Keeping.{pushed_some}
use Rattle.closing.proofs.Sums.{sum_of_none, sum_of_one, tail_only, front_room, sum_over, sum_room, sum_shut}
use Rattle.closing.proofs.sum.Goals as goal

pub returns-then-chain-eq0 : goal.returns-then-chain-eq0
returns-then-chain-eq0 c = sum_of_none c.args.area.now c.args.chain c.args.next c.if-chain-eq0.true

pub returns-then-second-eq0 : goal.returns-then-second-eq0
returns-then-second-eq0 c = sum_of_one (omega arith) c.requires.links.0 c.next_of-second.ensures.next c.args.next c.if-second-eq0.true

pub nest-requires-clause-tail : goal.nest-requires-clause-tail
nest-requires-clause-tail c = tail_only (omega arith) c.requires.links.0 c.next_of-second.ensures.next c.share-tail.ensures c.next_of-second.ensures.below (omega arith)

pub nest-requires-clause-room : goal.nest-requires-clause-room
nest-requires-clause-room c = front_room (omega arith) c.requires.links.0 c.next_of-second.ensures.next c.share-tail.ensures c.next_of-second.ensures.below (omega arith) c.requires.room

pub truncate-requires : goal.truncate-requires
truncate-requires c = omega (arith, pushed_some c.share-tail.ensures, c.share-tail.ensures.cell, c.share-tail.ensures.end, c.in_default.ensures.1.grew)

pub returns-in_default : goal.returns-in_default
returns-in_default c =
    let t = c.truncate.ensures in
    sum_over (omega arith) c.requires.links.0 c.next_of-second.ensures.next c.share-tail.ensures c.next_of-second.ensures.below (omega arith) c.args.next c.in_default.ensures t.lent t.end t.words

pub share-requires-clause-room : goal.share-requires-clause-room
share-requires-clause-room c =
    let r = sum_room (omega arith) c.requires.links.0 c.next_of-second.ensures.next c.share-tail.ensures c.next_of-second.ensures.below (omega arith) c.in-Some.ensures c.requires.links.1 c.requires.room in
    (omega (arith, r.0), omega (arith, r.1))

pub returns : goal.returns
returns c = sum_shut (omega arith) c.requires.links.0 c.next_of-second.ensures.next c.share-tail.ensures c.next_of-second.ensures.below (omega arith) c.in-Some.ensures c.requires.links.1 c.share.ensures
