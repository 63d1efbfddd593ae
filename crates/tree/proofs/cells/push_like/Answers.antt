use Rattle.tree.specs.Cells.{start_of, length_of, kind_of}
use Rattle.tree.proofs.cells.push_like.Goals as goal

pub returns : goal.returns
unfolding start_of length_of kind_of
returns c = c.push_cell.ensures
