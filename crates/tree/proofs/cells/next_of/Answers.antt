use mathlib.Core.Path.{refl}
use Rattle.tree.proofs.cells.next_of.Goals as goal

pub returns : goal.returns
returns c = (refl, c.requires.links.next c.args.k c.requires.k_nonzero.0 c.requires.k_nonzero.1)
