use mathlib.Core.Path.{◌≡◌}
use Rattle.families.proofs.SearchingIn.{SearchingIn}
use Rattle.families.proofs.generalizing.generalized.Given as goal

abbrev pub invariant-loop-k : goal.invariant-loop-k
invariant-loop-k l = SearchingIn l.initial.area l.area l.solution l.value l.members l.k × (l.free ≡ l.initial.area.free)

abbrev pub decreases-loop-k : goal.decreases-loop-k
decreases-loop-k l = l.k
