use mathlib.Core.Path.{sym, ◌∙◌}
use Rattle.substitution.proofs.Listing.{puts_same}
use Rattle.substitution.proofs.instances.keep.Goals as goal

pub returns-then-next_of-next-clause-puts : goal.returns-then-next_of-next-clause-puts
returns-then-next_of-next-clause-puts c = puts_same c.args.area.now c.args.i c.args.next c.requires.cells.0.0 c.requires.cells.0.1 (sym c.next_of.ensures.next ∙ c.if-next_of-next.true)
