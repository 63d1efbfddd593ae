use mathlib.Core.Path.{refl}
use Rattle.tree.specs.Cells.{length_of}
use Rattle.tree.proofs.cells.length_of.Goals as goal

pub returns : goal.returns
unfolding length_of
returns c = refl
