use Rattle.std.proofs.Common.{◌≡◌, refl, rules}
use Rattle.std.proofs.lemmas.Result.{err_from_is_err_and}
use Rattle.rules.specs.declared.Refusal.TheVariants.{ShortOutput}
use Rattle.answers.proofs.Gives.{refused_settles, short_settles, written_settles}
use Rattle.answers.proofs.giving.give.Goals as goal

pub returns-in_err-lines : goal.returns-in_err-lines
returns-in_err-lines c =
    let p = err_from_is_err_and c.from_residual.result c.from_residual.ensures.1 in
    rw (p.1, p.2, c.in_err-lines.was) (refused_settles _ c.args.output.now)

pub returns-in_err-ok_or : goal.returns-in_err-ok_or
returns-in_err-ok_or c =
    let p = err_from_is_err_and c.from_residual-in_err-ok_or.result c.from_residual-in_err-ok_or.ensures.1 in
    let l = c.in_err-ok_or.ensures in
    let m = rw l.ok_part at l.value in
    let e : c.in_err-ok_or.field-0.0 ≡ ShortOutput = cc in
    rw (p.1, p.2, e, c.in_ok-lines.was) (short_settles refl refl refl (rw l.ok_part at c.put_lines.ensures) (search rules))

pub returns : goal.returns
returns c =
    rw c.in_ok-lines.was (written_settles refl refl refl (rw c.in_ok-ok_or.ensures.ok_part at c.put_lines.ensures) refl refl refl (rw c.unwrap.ensures at c.put_lines-2.ensures) (search rules))
