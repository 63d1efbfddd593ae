-- What the functions that write a tree before a list of an area answer, and the room that an instance and its normal form need.
-- Definitions only.
use Rattle.std.specs.Prelude.{ℕ, ◌+◌, ◌*◌, ◌<◌, ◌≤◌, ◌^◌, ◌≡◌, length}
use Rattle.rules.specs.Tree.{Tree, Trees, more}
use Rattle.tree.specs.declared.area.Area.{Area}
use Rattle.tree.specs.Areas.{tree_in, trees_in, Grows}

-- b is a with at most m cells more: cell i is t, before the list from cell next on
pub record Becomes (a b : Area) (m next : ℕ) (t : Tree) (i : ℕ) : Type 0 where
  pub grows : Grows a b
  pub used : b.free ≤ a.free + m
  pub some_cell : 0 < i
  pub inside : i < b.free
  pub tree : tree_in b i ≡ t
  pub trees : trees_in b i ≡ more t (trees_in a next)

-- the same, where the list from cell i on is ts
pub record BecomesList (a b : Area) (m : ℕ) (ts : Trees) (i : ℕ) : Type 0 where
  pub grows : Grows a b
  pub used : b.free ≤ a.free + m
  pub inside : i < b.free
  pub trees : trees_in b i ≡ ts

-- the nodes of an instance and of its normal form, 4,096 each
abbrev pub instance_nodes : ℕ
instance_nodes = 8192

-- room for their cells, and for comparing them, which takes fifteen words for each node
abbrev pub InstanceRoom : Area → Type 0
InstanceRoom a = (4 * a.free + (4 + 15) * instance_nodes ≤ length a.work.now) × (a.free + instance_nodes < 2 ^ 32)
