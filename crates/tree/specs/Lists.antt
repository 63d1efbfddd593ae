-- Lists of an area: their cells, and their trees where new cells hold them. Definitions only.
use Rattle.std.specs.Prelude.{ℕ, zero, suc, ◌<◌, ◌≡◌, List, [], ◌∷◌}
use Rattle.rules.specs.Tree.{Trees, none, more}
use Rattle.tree.specs.declared.area.Area.{Area}
use Rattle.tree.specs.Areas.{next_in, trees_in, Adds}
use Rattle.tree.specs.declared.iter.Cells.{Cells}

-- the cells from cell k on, by links followed f deep
unfoldable pub chained : ℕ → Area → ℕ → List ℕ
chained zero a k = []
chained (suc f) a zero = []
chained (suc f) a (suc j) = suc j ∷ chained f a (next_in a (suc j))

-- the cells from cell k on; the links fall, so k is deep enough
unfoldable pub cells_from : Area → ℕ → List ℕ
unfolding chained
cells_from a k = chained k a k

abbrev pub cells_left : Cells → List ℕ
cells_left c = cells_from c.area.now c.cell

-- the trees of a list in their order, backwards, before others
unfoldable pub back : Trees → Trees → Trees
back none us = us
back (more t ts) us = back ts (more t us)

-- b is a with new cells, and the list from cell i on is ts
pub record Lists (a b : Area) (i : ℕ) (ts : Trees) : Type 0 where
  pub adds : Adds a b
  pub inside : i < b.free
  pub trees : trees_in b i ≡ ts
