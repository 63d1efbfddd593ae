use mathlib.Core.Path.{◌≡◌}
use mathlib.Core.List.{List}
use Rattle.std.specs.Prelude.{Some}
use Prim.Native.Nat.{◌-◌}
use lib.ListN.{length}
use Rattle.rules.specs.Sheet.{Member}
use Rattle.tree.specs.Areas.{KeepsCells}
use Rattle.forms.specs.Members.{members_at}
use Rattle.cover.proofs.DecidingIn.{DecidingIn}
use Rattle.cover.proofs.covering.any_covers.Given as goal

abbrev pub invariant-loop-line : goal.invariant-loop-line
invariant-loop-line l =
    KeepsCells l.initial.area l.area × (l.free ≡ l.initial.area.free)
    × ((ms : List Member) → members_at l.initial.area.sheet.now l.initial.cursor.at ≡ Some ms → DecidingIn l.initial.area l.solution ms l.initial.cursor.at l.cursor.at)

abbrev pub decreases-loop-line : goal.decreases-loop-line
decreases-loop-line l = length l.initial.area.sheet.now - l.cursor.at
