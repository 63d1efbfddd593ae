use mathlib.Core.Path.{sym, ◌∙◌}
use Rattle.reduction.proofs.Becoming.{over_own, becomes_put}
use Rattle.reduction.proofs.normalizing.stay.Goals as goal

pub returns-then-first_of-first-clause-becomes : goal.returns-then-first_of-first-clause-becomes
returns-then-first_of-first-clause-becomes c =
    rw (over_own c.args.area.now c.args.i c.requires.application (sym c.first_of.ensures.first ∙ c.if-first_of-first.true)) at (becomes_put c.keep.ensures.puts c.keep.ensures.end)
