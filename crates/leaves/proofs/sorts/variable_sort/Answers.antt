use Rattle.std.proofs.Common.{◌∙◌}
use Rattle.leaves.proofs.LeafSorts.{constant_sort, colon_sort}
use Rattle.leaves.proofs.sorts.variable_sort.Goals as goal

pub returns-in_err-leaf_sort : goal.returns-in_err-leaf_sort
returns-in_err-leaf_sort c = c.from_residual.ensures ∙ constant_sort c.args.name.now c.in_err-leaf_sort.ensures

pub returns : goal.returns
returns c = colon_sort c.args.name.now c.in_ok-leaf_sort.field-0 c.in_ok-leaf_sort.ensures
