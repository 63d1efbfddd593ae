use Rattle.sums.proofs.Removing.{strikes_cells}
use Rattle.sums.proofs.striking.strike.Goals as goal

pub returns : goal.returns
returns c = let p = c.split_at_mut-lefts.ensures in strikes_cells c.args.cells.now c.args.mid p.value p.front_len c.strike_each.ensures
