use Rattle.std.proofs.lemmas.Result.{err_from_is_err_and}
use Rattle.kinds.proofs.Completes.{complete_unread, complete_decided}
use Rattle.kinds.proofs.complete_of.Goals as goal

pub returns-in_err-index : goal.returns-in_err-index
returns-in_err-index c =
    let p = err_from_is_err_and c.from_residual.result c.from_residual.ensures.1 in
    rw (p.1, p.2, c.in_err-index.ensures.0) (complete_unread c.requires.asked c.in_err-index.ensures.1)

pub returns : goal.returns
returns c = complete_decided c.requires.asked c.requires.ready.no_cells c.in_ok-index.ensures c.complete-claim.ensures
