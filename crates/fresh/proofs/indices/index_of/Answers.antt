use mathlib.Core.Path.{◌∙◌}
use Rattle.fresh.proofs.Indexing.{unindexed, led_by_x, index_read, digits_inside}
use Rattle.fresh.proofs.indices.index_of.Goals as goal

pub returns-in_err-rest : goal.returns-in_err-rest
returns-in_err-rest c = c.from_residual.ensures ∙ unindexed c.args.name.now c.in_err-rest.ensures.cases

pub slice_bounds-number_up_to-end : goal.slice_bounds-number_up_to-end
slice_bounds-number_up_to-end c = digits_inside c.in_ok-rest.rest.now c.run_end-end.result c.run_end-end.ensures

pub returns : goal.returns
returns c =
    let r = c.in_ok-rest in
    c.number_up_to.ensures ∙ index_read c.args.name.now r.rest.now c.run_end-end.result c.run_end-end.ensures r.ensures.cases.1 (led_by_x c.args.name.now r.ensures.cases.0)
