use mathlib.Core.Path.{refl}
use Rattle.tree.specs.Cells.{start_of}
use Rattle.tree.proofs.cells.start_of.Goals as goal

pub returns : goal.returns
unfolding start_of
returns c = refl
