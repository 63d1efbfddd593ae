use Rattle.std.specs.Prelude.{◌<◌}
use Rattle.layout.specs.Places.{laid_out}
use Rattle.layout.proofs.Turns.{InText}
use Rattle.layout.proofs.entries.lay_entry.Given as goal

abbrev pub invariant-loop-rest : goal.invariant-loop-rest
invariant-loop-rest l = record { begun : l.fn.place.from < l.place.from; text : InText (laid_out l.fn.output l.fn.end l.fn.place) l.output l.end l.place l.key l.rest }

abbrev pub decreases-loop-rest : goal.decreases-loop-rest
decreases-loop-rest l = l.rest
