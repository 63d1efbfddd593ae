use Rattle.std.proofs.lemmas.Result.{err_from_is_err_and}
use Rattle.kinds.proofs.Covers.{cover_unread, cover_asks, cover_decided}
use Rattle.kinds.proofs.cover_of.Goals as goal

pub returns-in_err-read : goal.returns-in_err-read
returns-in_err-read c =
    let p = err_from_is_err_and c.from_residual.result c.from_residual.ensures.1 in
    let k = c.requires.asked in
    let u = c.in_err-read.ensures.1 in
    rw (p.1, p.2, c.in_err-read.ensures.0) (cover_unread k (u.0 k.entries k.rest k.lines) u.1.lent)

pub covered-claim-requires : goal.covered-claim-requires
covered-claim-requires c =
    let k = c.requires.asked in
    let h = c.in_ok-read.ensures k.entries k.rest k.lines in
    record { stack = (h.inside, cover_asks k c.requires.ready.no_cells h c.requires.words) }

pub returns : goal.returns
returns c =
    let k = c.requires.asked in
    let h = c.in_ok-read.ensures k.entries k.rest k.lines in
    cover_decided k c.requires.ready.no_cells h c.covered-claim.ensures
