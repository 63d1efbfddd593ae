use Rattle.std.proofs.lemmas.Result.{err_from_is_err_and}
use Rattle.yukhtsami.proofs.Calling.{refused_answers, enough_words, settled_answers}
use Rattle.yukhtsami.proofs.answer_in.Goals as goal

pub returns-in_err-admitted : goal.returns-in_err-admitted
returns-in_err-admitted c =
    let a = c.args in
    let p = err_from_is_err_and c.from_residual.result c.from_residual.ensures.1 in
    rw (p.1, p.2) (refused_answers a.layout a.sheet.now a.work.now a.output.now _ c.in_err-admitted.ensures)

pub settle_and_clear-requires : goal.settle_and_clear-requires
settle_and_clear-requires c =
    let a = c.args in
    let h = c.in_ok-admitted.ensures in
    let m = c.in_ok-admitted.admitted in
    record { decoded = h.decoded; enough_words = (enough_words a.layout a.sheet.now a.work.now a.output.now m.form m.needed h, h.enough) }

pub returns : goal.returns
returns c =
    let a = c.args in
    let h = c.in_ok-admitted.ensures in
    let m = c.in_ok-admitted.admitted in
    settled_answers a.layout a.sheet.now a.work.now a.output.now m.form m.needed h _ _ c.settle_and_clear.result c.settle_and_clear.ensures.settles_form c.settle_and_clear.ensures.work_after
