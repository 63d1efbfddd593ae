use mathlib.Core.Path.{refl}
use Rattle.tree.specs.Cells.{kind_of}
use Rattle.tree.proofs.cells.kind_of.Goals as goal

pub returns : goal.returns
unfolding kind_of
returns c = refl
