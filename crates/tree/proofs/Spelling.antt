-- Texts of the sheet as names of cells.
use Prim.Native.Nat.{◌-◌}
use mathlib.Core.Path.{◌≡◌, sym, ap, subst}
use Rattle.sheet.specs.declared.Place.{Place as Text_place}
use Rattle.tree.specs.Cells.{part}
use Rattle.tree.specs.declared.area.Area.{Area}
use Rattle.tree.specs.Areas.{Lent}
use Rattle.tree.specs.Spelled.{text_in, Spelled}

-- the texts of an area that was lent the same sheet
module _ {a b : Area} (p : Text_place) (h : Lent a b) where
  pub text_lent : text_in b p ≡ text_in a p
  text_lent = ap (λ s. part s.now p.from (p.to - p.from)) h.sheet

  pub spelled_lent : Spelled a.sheet.now p → Spelled b.sheet.now p
  spelled_lent y = subst (λ s. Spelled s.now p) (sym h.sheet) y
