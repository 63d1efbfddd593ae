use native.Mathlib.Omega.{arith}
use Rattle.std.proofs.lemmas.Result.{err_from_is_err_and}
use Rattle.laws.proofs.Reading.Builds.{reads_within}
use Rattle.kinds.proofs.Reduces.{reduce_unread, reduce_decided}
use Rattle.kinds.proofs.reduce.Goals as goal

pub returns-in_err-index : goal.returns-in_err-index
returns-in_err-index c =
    let p = err_from_is_err_and c.from_residual.result c.from_residual.ensures.1 in
    rw (p.1, p.2, c.in_err-index.ensures.0) (reduce_unread c.in_err-index.ensures.1)

pub normalize-normal-requires-clause-small : goal.normalize-normal-requires-clause-small
normalize-normal-requires-clause-small c = reads_within _ _ c.in_ok-index.ensures.reads

pub normalize-normal-requires-clause-room : goal.normalize-normal-requires-clause-room
normalize-normal-requires-clause-room c =
    let h = c.in_ok-index.ensures in
    let r = h.room in
    let l = h.outside.len in
    let z = reads_within _ _ h.reads in
    let y = c.requires.ready in
    (omega (arith, y.no_cells, y.short, y.words, c.requires.inside), omega (arith, y.no_cells, y.short, y.words, c.requires.inside))

pub returns : goal.returns
returns c = reduce_decided c.in_ok-index.ensures c.normalize-normal.ensures
