-- A cell to write, and the tree that it is in an area. Definitions only.
use Rattle.std.specs.Prelude.{ℕ, ◌/◌, ◌%◌, ◌<◌, ◌≡◌, get_or}
use Rattle.rules.specs.Bytes.{Text}
use Rattle.rules.specs.Tree.{Tree, size}
use Rattle.tree.specs.declared.area.Area.{Area}
use Rattle.tree.specs.declared.writing.Cell.{Cell}
use Rattle.tree.specs.Cells.{named, variable_kind, made}
use Rattle.tree.specs.Arena.{Place}
use Rattle.tree.specs.Areas.{trees_in}
use Rattle.tree.specs.Kinds.{kind_number}

-- the name in a cell's first word
abbrev pub word_name : Text → ℕ → Text
word_name s x = named s (x / 65536) (x % 65536)

abbrev pub cell_name : Area → Cell → Text
cell_name a c = word_name a.sheet.now c.name

abbrev pub cell_tree : Area → Cell → Tree
cell_tree a c = made (kind_number c.kind) (cell_name a c) (trees_in a c.first)

-- a cell that may stand in an area
pub record Fits (a : Area) (c : Cell) : Type 0 where
  pub first : c.first < a.free
  pub next : c.next < a.free
  pub placed : Place a.sheet.now (c.name / 65536) (c.name % 65536)
  pub sorted : 0 < kind_number c.kind → kind_number c.kind < 7 → kind_number c.kind ≡ variable_kind (cell_name a c)
  pub plain : kind_number c.kind < 7 → get_or (cell_name a c) 1 0 ≡ 40 → ⊥
  pub counted : c.count ≡ size (cell_tree a c)
  pub few : c.count < 65536
