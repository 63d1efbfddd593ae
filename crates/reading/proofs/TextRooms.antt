-- Room for the texts from a position on is room for those read so far and one more.
use Prim.Native.Nat.{ℕ, ◌+◌, ◌*◌, ◌^◌, ◌<◌, ◌≤◌}
use native.Mathlib.Omega.{arith}
use lib.ListN.{length}
use Rattle.tree.specs.declared.area.Area.{Area}
use Rattle.tree.specs.Areas.{Grows}
use Rattle.tree.proofs.Keeping.{grows_length}
use Rattle.reading.specs.Areas.{texts_end_in, TextsRoomIn}
use Rattle.reading.proofs.Keeping.{sheet_length}

pub texts_room : {a b : Area} (at : ℕ) {end : ℕ} → Grows a b → TextsRoomIn a at → end ≤ texts_end_in a at
    → (length b.sheet.now ≤ 65536) × (4 * end + 3 * length b.sheet.now < length b.work.now) × (end < 2 ^ 32)
texts_room at g q e =
    let s = sheet_length g.lent in
    (omega (arith, q.0, s), omega (arith, q.1, e, s, grows_length g), omega (arith, q.2, e))
