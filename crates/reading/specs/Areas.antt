-- What the term reader gives in a work area: the cell of a tree where the text reads, and where it does not the free end as it was.
-- Definitions only.
use Rattle.std.specs.Prelude.{ℕ, ◌+◌, ◌-◌, ◌*◌, ◌^◌, ◌<◌, ◌≤◌, ◌≡◌, length, Option, Some, None}
use Rattle.rules.specs.Reading.{parse}
use Rattle.sheet.specs.declared.Place.{Place}
use Rattle.text.specs.Frames.{Outside}
use Rattle.tree.specs.declared.area.Area.{Area}
use Rattle.tree.specs.Areas.{tree_in, next_in, Lent}
use Rattle.tree.specs.Spelled.{text_in}
use Rattle.reading.specs.Parsing.{limit_of, stack_end}

-- b is a with the tree of the text at a place in cell i, which has no link, and with words of the stack above the cells
pub record Reads (a b : Area) (p : Place) (i : ℕ) : Type 0 where
  pub lent : Lent a b
  pub reads : parse (text_in a p) ≡ Some (tree_in b i)
  pub link : next_in b i ≡ 0
  pub placed : (0 < i) × (i < b.free)
  pub grew : a.free ≤ b.free
  pub room : b.free ≤ limit_of a.free p.from p.to
  pub outside : Outside a.work.now b.work.now (4 * a.free) (stack_end a.free p.from p.to)

-- the text at a place is no term; b is a with words written above the cells
pub record UnreadIn (a b : Area) (p : Place) : Type 0 where
  pub lent : Lent a b
  pub unread : parse (text_in a p) ≡ None
  pub end : b.free ≡ a.free
  pub outside : Outside a.work.now b.work.now (4 * a.free) (stack_end a.free p.from p.to)

abbrev pub ParsesIn : Area → Area → Place → Option ℕ → Type 0
ParsesIn a b p None = UnreadIn a b p
ParsesIn a b p (Some i) = Reads a b p i

-- room for cells up to an end, and for the reader's stack above them
abbrev pub ReaderRoomIn : Area → ℕ → Type 0
ReaderRoomIn a end = (length a.sheet.now ≤ 65536) × (4 * end + 3 * length a.sheet.now < length a.work.now) × (end < 2 ^ 32)

-- the cells of all texts from a position on end at most here: two for each byte
abbrev pub texts_end_in : Area → ℕ → ℕ
texts_end_in a at = a.free + 2 * (length a.sheet.now - at)

abbrev pub TextsRoomIn : Area → ℕ → Type 0
TextsRoomIn a at = ReaderRoomIn a (texts_end_in a at)
