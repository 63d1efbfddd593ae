use mathlib.Core.Path.{refl, ◌∙◌}
use native.Mathlib.Omega.{arith}
use Rattle.layout.proofs.Laying.{begun, begun_laid, blanks_end, blanks_laid}
use Rattle.layout.proofs.lay_out.Goals as goal

pub loop-place-init : goal.loop-place-init
loop-place-init c =
    let o = c.args.output.now in
    let s = c.args.start in
    let r = c.requires in
    record { unread = begun o s _ r.start r.answer r.room refl r.count; laid = begun_laid o s _ r.start r.answer }

pub put_blank_lines-requires : goal.put_blank_lines-requires
put_blank_lines-requires c =
    let u = c.loop-place.invariant.unread in
    let i = u.filling.inside in
    omega (arith, blanks_end u (omega arith))

pub returns : goal.returns
returns c =
    let l = c.loop-place in
    blanks_laid l.invariant.unread (omega arith) c.put_blank_lines.ensures ∙ l.invariant.laid
