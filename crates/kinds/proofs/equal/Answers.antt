use mathlib.Core.Path.{◌≡◌, refl}
use Rattle.std.proofs.lemmas.Result.{err_from_is_err_and}
use Rattle.rules.specs.declared.Refusal.TheVariants.{UnreadableTerm}
use Rattle.kinds.proofs.Equals.{equal_unread, equal_decided}
use Rattle.kinds.proofs.equal.Goals as goal

pub returns-in_err-same : goal.returns-in_err-same
returns-in_err-same c =
    let p = err_from_is_err_and c.from_residual.result c.from_residual.ensures.1 in
    let o = c.in_err-same.ensures in
    let m = rw o.ok_part at o.value in
    let e : c.in_err-same.field-0.0 ≡ UnreadableTerm = cc in
    rw (p.1, p.2, e) (equal_unread c.args.left c.args.right (record { work = refl; sheet = refl }) (rw o.ok_part at c.equivalent.ensures.value))

pub returns : goal.returns
returns c = equal_decided c.args.left c.args.right (record { work = refl; sheet = refl }) (rw c.in_ok-same.ensures.ok_part at c.equivalent.ensures.value)
