-- A word written above the cells of an area. Definitions only.
use Rattle.std.specs.Prelude.{ℕ, ◌≡◌, slice_set}
use Rattle.tree.specs.declared.area.Area.{Area}
use Rattle.tree.specs.Areas.{Lent}

pub record Writes (a b : Area) (at x : ℕ) : Type 0 where
  pub lent : Lent a b
  pub end : b.free ≡ a.free
  pub words : b.work.now ≡ slice_set a.work.now at x
