use mathlib.Core.List.{[]}
use Rattle.std.proofs.lemmas.Result.{err_from_is_err_and}
use Rattle.kinds.proofs.Solves.{solves, pairs_unread, read_whole, read_fit, read_roomy, pairs_decided}
use Rattle.kinds.proofs.solve_pairs.Goals as goal

pub returns-in_err-read : goal.returns-in_err-read
returns-in_err-read c =
    let p = err_from_is_err_and c.from_residual.result c.from_residual.ensures.1 in
    let k = c.requires.asked in
    let u = c.in_err-read.ensures.1 in
    rw (p.1, p.2, c.in_err-read.ensures.0) (pairs_unread (solves c.args.solver) k (u.0 k.entries [] k.lines) u.1.lent)

pub solve-requires-clause-stack : goal.solve-requires-clause-stack
solve-requires-clause-stack c =
    let k = c.requires.asked in
    let h = c.in_ok-read.ensures k.entries [] k.lines in
    (h.inside, read_whole h, read_fit h)

pub solve-requires-clause-room : goal.solve-requires-clause-room
solve-requires-clause-room c =
    let k = c.requires.asked in
    let h = c.in_ok-read.ensures k.entries [] k.lines in
    read_roomy (solves c.args.solver) k c.requires.ready.no_cells h c.requires.words

pub returns : goal.returns
returns c =
    let k = c.requires.asked in
    let h = c.in_ok-read.ensures k.entries [] k.lines in
    pairs_decided (solves c.args.solver) k c.requires.ready.no_cells h c.solve.ensures
