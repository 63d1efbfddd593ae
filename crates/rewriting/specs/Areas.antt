-- Cells of an area that hold arguments. Definitions only.
use Rattle.rules.specs.Tree.{Tree}
use Rattle.tree.specs.declared.area.Area.{Area}
use Rattle.tree.specs.Areas.{tree_in}
use Rattle.rewriting.specs.declared.naming.Two.{Two}

-- the trees of two cells
abbrev pub two_in : Area → Two → Tree × Tree
two_in a two = (tree_in a two.first, tree_in a two.second)
