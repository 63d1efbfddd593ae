use mathlib.Core.Path.{◌∙◌}
use Rattle.complete.proofs.Rooms.{fuel_min}
use Rattle.complete.proofs.judging.enough.Goals as goal

pub returns : goal.returns
returns c = c.min.ensures ∙ fuel_min c.args.nodes c.args.named
