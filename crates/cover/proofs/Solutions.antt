-- The pairs of a sheet unified in a part of the work area, and the members matched in all of it.
use mathlib.Core.Path.{◌≡◌, ap}
use mathlib.Core.Bool.{Bool}
use mathlib.Core.List.{List}
use Rattle.std.specs.Prelude.{Option, Some, None}
use Rattle.rules.specs.Substitution.{Pair}
use Rattle.rules.specs.Solving.{Verdict, solved, failed, unsupported, unify}
use Rattle.rules.specs.Sheet.{Member}
use Rattle.rules.specs.Cover.{variables_of, any_covers, covered}

-- what is covered, by the verdict over the pairs
pub covered_by : (ps : List Pair) (ms : List Member) {v : Verdict} → (unify 65536 ps).0 ≡ v
    → covered ps ms ≡ elim v [ solved bs ↦ Some (any_covers (variables_of ps) bs ms) | failed ↦ None | unsupported ↦ None ]
unfolding covered
covered_by ps ms e =
    ap {B = Option Bool} (λ (v : Verdict). elim v [ solved bs ↦ Some (any_covers (variables_of ps) bs ms) | failed ↦ None | unsupported ↦ None ]) e
