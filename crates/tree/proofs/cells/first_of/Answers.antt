use mathlib.Core.Path.{refl}
use Rattle.tree.proofs.cells.first_of.Goals as goal

pub returns : goal.returns
returns c = (refl, c.requires.links.first c.args.k c.requires.k_nonzero.0 c.requires.k_nonzero.1)
