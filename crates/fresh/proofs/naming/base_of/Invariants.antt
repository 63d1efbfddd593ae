use mathlib.Core.Path.{◌≡◌}
use mathlib.Core.List.{map}
use lib.ListN.{drop}
use Prim.Native.Nat.{◌≤◌, ◌^◌}
use Rattle.text.specs.Places.{text_at}
use Rattle.fresh.specs.Indices.{names_base_from, names_base}
use Rattle.fresh.specs.Areas.{texts_in}
use Rattle.fresh.proofs.naming.base_of.Given as goal

abbrev pub invariant-loop-x : goal.invariant-loop-x
invariant-loop-x l = (l.base ≤ 2 ^ 63) × (names_base_from l.base (map (text_at l.area.sheet.now) (drop l.x-index l.x-items)) ≡ names_base (texts_in l.area l.fn.places))
