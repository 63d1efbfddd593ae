use native.Mathlib.Omega.{arith}
use mathlib.Core.Path.{refl}
use Rattle.tree.specs.Cells.{nodes_of}
use Rattle.tree.proofs.cells.count_of.Goals as goal

pub returns : goal.returns
unfolding nodes_of
returns c = (refl, omega arith)
