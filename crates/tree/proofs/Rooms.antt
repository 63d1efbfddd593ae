-- Room for cells after others are written.
use Prim.Native.Nat.{ℕ, ◌+◌, ◌≤◌}
use native.Mathlib.Omega.{arith}
use Rattle.tree.specs.declared.area.Area.{Area}
use Rattle.tree.specs.Areas.{HasRoom, Grows}
use Rattle.tree.proofs.Keeping.{grows_length}

module _ (a : Area) (n : ℕ) (r : HasRoom a n) where
  pub room_after : {b : Area} (m : ℕ) → Grows a b → b.free + m ≤ a.free + n → HasRoom b m
  room_after m g h = (omega (arith, r.0, grows_length g), omega (arith, r.1))
