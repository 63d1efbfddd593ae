use native.Mathlib.Omega.{arith}
use Rattle.sums.specs.Summands.{every_cancels}
use Rattle.steps.proofs.Settling.{sum_kept, left_summable, right_summable, settled}
use Rattle.steps.proofs.rest.rest_of.Goals as goal

pub settle-requires-clause-like_cell : goal.settle-requires-clause-like_cell
settle-requires-clause-like_cell c =
    let k = c.requires.cells in
    let h = c.prepare-split.ensures.keeps in
    ((k.0.0, omega (arith, k.0.1, h.end)), sum_kept c.args.left h k.0.0 k.0.1 c.requires.sums.0)

pub settle-requires-clause-left : goal.settle-requires-clause-left
settle-requires-clause-left c = left_summable c.requires.room c.requires.fit c.prepare-split.ensures

pub settle-requires-clause-right : goal.settle-requires-clause-right
settle-requires-clause-right c = right_summable c.requires.room c.requires.fit c.prepare-split.ensures

pub returns : goal.returns
returns c = settled c.requires.room c.requires.fit c.prepare-split.ensures c.settle.new.area (every_cancels c.args.cancelling) c.settle.result c.settle.ensures
