-- Texts of the sheet as names of new cells. Definitions only.
use Rattle.std.specs.Prelude.{◌-◌, ◌<◌, ◌≤◌, ◌≡◌, length, get_or}
use Rattle.rules.specs.Bytes.{Text}
use Rattle.sheet.specs.declared.Place.{Place}
use Rattle.tree.specs.Cells.{part}
use Rattle.tree.specs.declared.area.Area.{Area}

-- the text at a place
abbrev pub text_in : Area → Place → Text
text_in a p = part a.sheet.now p.from (p.to - p.from)

-- a text of the sheet that a cell may have for its name: not empty, and no atom's text
pub record Spelled (s : Text) (p : Place) : Type 0 where
  pub some : p.from < p.to
  pub inside : p.to ≤ length s
  pub start : p.from < 65536
  pub short : p.to - p.from < 65536
  pub plain : get_or (part s p.from (p.to - p.from)) 1 0 ≡ 40 → ⊥
