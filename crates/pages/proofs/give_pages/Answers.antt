use Rattle.std.proofs.Common.{◌≡◌}
use Rattle.std.proofs.lemmas.Result.{err_from_is_err_and}
use Rattle.rules.specs.declared.Refusal.TheVariants.{TooManyPages}
use Rattle.pages.proofs.Held.{lines_columned}
use Rattle.pages.proofs.Giving.{refused_settles, many_settles, short_settles, pages_settle}
use Rattle.pages.proofs.give_pages.Goals as goal

pub returns-in_err-lines : goal.returns-in_err-lines
returns-in_err-lines c =
    let p = err_from_is_err_and c.from_residual.result c.from_residual.ensures.1 in
    rw (p.1, p.2, c.in_err-lines.was) (refused_settles _ c.args.output.now)

pub returns-in_err-needed : goal.returns-in_err-needed
returns-in_err-needed c =
    let p = err_from_is_err_and c.from_residual-in_err-needed.result c.from_residual-in_err-needed.ensures.1 in
    let l = c.in_err-needed.ensures in
    let m = rw l.ok_part at l.value in
    let e : c.in_err-needed.field-0.0 ≡ TooManyPages = cc in
    rw (p.1, p.2, e, c.in_ok-lines.was, c.measure.ensures.kept) (many_settles _ _ (rw l.ok_part at c.measure.ensures.needs))

pub returns-then-end-output : goal.returns-then-end-output
returns-then-end-output c =
    let n = rw c.in_ok-needed.ensures.ok_part at c.measure.ensures.needs in
    let h = rw c.in_ok-lines.was at c.requires.columned in
    rw (c.in_ok-lines.was, c.measure.ensures.kept) (short_settles _ _ _ (lines_columned c.args.area.now c.in_ok-lines.lines h) n (rw c.measure.ensures.kept at c.if-end-output.true))

pub returns : goal.returns
returns c =
    let n = rw c.in_ok-needed.ensures.ok_part at c.measure.ensures.needs in
    let h = rw c.in_ok-lines.was at c.requires.columned in
    rw c.in_ok-lines.was (pages_settle _ _ _ (lines_columned c.args.area.now c.in_ok-lines.lines h) n (rw c.measure.ensures.kept at c.if-end-output.false) (rw c.measure.ensures.kept at c.put_pages.ensures))
