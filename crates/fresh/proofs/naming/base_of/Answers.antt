use mathlib.Core.Path.{sym, ◌∙◌}
use native.Mathlib.Omega.{arith}
use Rattle.fresh.proofs.Indexing.{index_bounded, listed_first, listed_passes, listed_fails, listed_ends}
use Rattle.fresh.proofs.naming.base_of.Goals as goal

pub loop-x-init : goal.loop-x-init
loop-x-init c = (omega arith, listed_first c.args.area.now.sheet.now c.args.area.now.work.now c.args.places.from c.args.places.to)

pub returns-in_err-index : goal.returns-in_err-index
returns-in_err-index c =
    let l = c.loop-x in
    c.from_residual.ensures ∙ listed_fails c.args.area.now.sheet.now _ l.x-index l.base c.loop-x-test.true c.text_at.ensures l.invariant.1 (sym c.in_err-index.was ∙ c.index_of.ensures)

pub overflow_add-index : goal.overflow_add-index
overflow_add-index c = omega (arith, index_bounded c.text_at.result.now c.in_ok-index.index (sym (sym c.in_ok-index.was ∙ c.index_of.ensures)))

pub loop-x-preserved : goal.loop-x-preserved
loop-x-preserved c =
    let l = c.loop-x in
    let e = sym c.in_ok-index.was ∙ c.index_of.ensures in
    let z = index_bounded c.text_at.result.now c.in_ok-index.index (sym e) in
    (omega (arith, c.max-base.ensures), rw c.max-base.ensures (listed_passes c.args.area.now.sheet.now _ l.x-index l.base c.loop-x-test.true c.text_at.ensures l.invariant.1 e))

pub returns : goal.returns
returns c = listed_ends c.args.area.now.sheet.now _ c.loop-x.x-index c.loop-x.base c.loop-x-test.false c.loop-x.invariant.1
