use Rattle.std.proofs.Common.{◌∙◌}
use Rattle.leaves.proofs.LeafSorts.{leaf_found, no_leaf_sort}
use Rattle.leaves.proofs.sorts.leaf_sort.Goals as goal

pub returns-in_err-at : goal.returns-in_err-at
returns-in_err-at c = c.from_residual.ensures ∙ no_leaf_sort c.args.name.now c.in_err-at.ensures

pub returns : goal.returns
returns c = leaf_found c.args.name.now c.in_ok-at.at c.in_ok-at.ensures c.sort_named.ensures
