use native.Mathlib.Omega.{arith}
use Rattle.sums.proofs.Summing.{summing_starts, summing_ends, sum_room, cell_inside, summing_skips, first_sum, next_sum, sum_small, like_stays}
use Rattle.sums.proofs.rebuild.Goals as goal

pub loop-k-init : goal.loop-k-init
loop-k-init c = summing_starts c.args.area.now c.args.at c.args.end c.requires.words.0

pub word-cell-requires : goal.word-cell-requires
word-cell-requires c = let q = c.requires.words in (sum_room c.loop-k.invariant (omega (arith, c.loop-k-test.true)) q.1 q.2).3

pub share-requires-clause-k_cell : goal.share-requires-clause-k_cell
share-requires-clause-k_cell c =
    let h = c.loop-k.invariant in
    let q = c.requires.words in
    let r = sum_room h (omega (arith, c.loop-k-test.true)) q.1 q.2 in
    let i = cell_inside h (omega (arith, c.loop-k-test.true)) q.1 q.2 c.word-cell.ensures.0 (omega (arith, c.if-cell-ne0.true)) c.requires.cells in
    ((omega (arith, c.if-cell-ne0.true), omega (arith, i, r.2)), c.loop-k.area.arena.links.some)

pub share-requires-clause-room : goal.share-requires-clause-room
share-requires-clause-room c = let q = c.requires.words in let r = sum_room c.loop-k.invariant (omega (arith, c.loop-k-test.true)) q.1 q.2 in (omega (arith, r.0), omega (arith, r.1, q.3))

pub add-requires-clause-like_cell : goal.add-requires-clause-like_cell
add-requires-clause-like_cell c = let l = c.requires.like_cell in like_stays c.loop-k.invariant l.0.0 l.0.1 l.1

pub add-requires-clause-cells : goal.add-requires-clause-cells
add-requires-clause-cells c =
    let h = c.loop-k.invariant in
    let q = c.requires.words in
    let r = sum_room h (omega (arith, c.loop-k-test.true)) q.1 q.2 in
    let i = cell_inside h (omega (arith, c.loop-k-test.true)) q.1 q.2 c.word-cell.ensures.0 (omega (arith, c.if-cell-ne0.true)) c.requires.cells in
    let s = rw c.in-Some.is at h.summed.sum in
    ((omega (arith, c.if-cell-ne0.true), omega (arith, i, r.2)), (s.some_cell, s.inside), s.link)

pub add-requires-clause-room : goal.add-requires-clause-room
add-requires-clause-room c = let q = c.requires.words in let r = sum_room c.loop-k.invariant (omega (arith, c.loop-k-test.true)) q.1 q.2 in (r.0, omega (arith, r.1, q.3))

pub add-requires-clause-small : goal.add-requires-clause-small
add-requires-clause-small c =
    let h = c.loop-k.invariant in
    let q = c.requires.words in
    sum_small h (omega (arith, c.loop-k-test.true)) q.1 q.2 c.word-cell.ensures.0 (omega (arith, c.if-cell-ne0.true)) c.requires.cells (rw c.in-Some.is at h.summed.sum) c.requires.small

pub loop-k-preserved-in-None : goal.loop-k-preserved-in-None
loop-k-preserved-in-None c =
    let h = c.loop-k.invariant in
    let q = c.requires.words in
    first_sum h (omega (arith, c.loop-k-test.true)) q.1 q.2 c.word-cell.ensures.0 (omega (arith, c.if-cell-ne0.true)) c.requires.cells (rw c.in-None.is at h.summed.sum) c.share.ensures

pub loop-k-preserved-in-Some : goal.loop-k-preserved-in-Some
loop-k-preserved-in-Some c =
    let h = c.loop-k.invariant in
    let q = c.requires.words in
    next_sum h (omega (arith, c.loop-k-test.true)) q.1 q.2 c.word-cell.ensures.0 (omega (arith, c.if-cell-ne0.true)) c.requires.cells (rw c.in-Some.is at h.summed.sum) c.add.ensures

pub loop-k-preserved : goal.loop-k-preserved
loop-k-preserved c =
    let q = c.requires.words in
    summing_skips c.loop-k.invariant (omega (arith, c.loop-k-test.true)) q.1 q.2 c.word-cell.ensures.0 c.if-cell-ne0.false

pub returns : goal.returns
returns c = summing_ends c.loop-k.invariant (omega (arith, c.loop-k-test.false))
