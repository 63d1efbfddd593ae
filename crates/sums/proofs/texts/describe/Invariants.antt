use mathlib.Core.Path.{◌≡◌}
use Rattle.sums.proofs.Labelling.{Describing}
use Rattle.sums.proofs.texts.describe.Given as goal

abbrev pub invariant-loop-p : goal.invariant-loop-p
invariant-loop-p l = Describing l.area l.cells l.fn.starts l.fn.words l.starts l.out.words.now l.p l.out.end × (l.out.words.ghost_name ≡ l.initial.out.words.ghost_name)
