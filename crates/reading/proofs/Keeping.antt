-- The term reader keeps the cells of an area.
use Prim.Native.Nat.{ℕ}
use mathlib.Core.Path.{◌≡◌, ap}
use lib.ListN.{length}
use Rattle.sheet.specs.declared.Place.{Place}
use Rattle.tree.specs.declared.area.Area.{Area}
use Rattle.tree.specs.Areas.{Lent, KeepsCells, Grows}
use Rattle.tree.proofs.Areas.{outside_below}
use Rattle.tree.proofs.Keeping.{grows_keeps}
use Rattle.reading.specs.Areas.{Reads, UnreadIn}

pub reads_grows : {a b : Area} {p : Place} {i : ℕ} → Reads a b p i → Grows a b
reads_grows h = record { lent = h.lent; grew = h.grew; below = outside_below h.outside }

pub unread_keeps : {a b : Area} {p : Place} → UnreadIn a b p → KeepsCells a b
unread_keeps h = record { lent = h.lent; end = h.end; below = outside_below h.outside }

pub unread_grows : {a b : Area} {p : Place} → UnreadIn a b p → Grows a b
unread_grows h = grows_keeps (unread_keeps h)

-- the sheet is the same
pub sheet_length : {a b : Area} → Lent a b → length b.sheet.now ≡ length a.sheet.now
sheet_length h = ap (λ s. length s.now) h.sheet
