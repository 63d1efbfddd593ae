-- What the cells of an area hold, and what a function that writes cells there keeps. Definitions only.
use Rattle.std.specs.Prelude.{ℕ, ◌+◌, ◌*◌, ◌^◌, ◌<◌, ◌≤◌, ◌≡◌, Bool, false, length, Option, None}
use Rattle.rules.specs.Bytes.{Text, same}
use Rattle.rules.specs.Tree.{Tree, variable, atom, apply, Trees, tamtplus}
use Rattle.rules.specs.declared.Sort.{Sort}
use Rattle.rules.specs.Sorts.{variable_sort}
use Rattle.tree.specs.declared.area.Area.{Area}
use Rattle.tree.specs.declared.kinds.Kind.{Kind}
pub use Rattle.tree.specs.Kinds.{coded_sort, coded_kind}
use Rattle.tree.specs.Cells.{kind_of, nodes_of, first_of, next_of, name_at, tree_at, trees_at}
use Rattle.tree.specs.Arena.{Below, Grown, Linked}

abbrev pub cell_kind : Area → ℕ → Kind
cell_kind a k = coded_kind (kind_of a.work.now k)

abbrev pub count_in : Area → ℕ → ℕ
count_in a k = nodes_of a.work.now k

abbrev pub first_in : Area → ℕ → ℕ
first_in a k = first_of a.work.now k

abbrev pub next_in : Area → ℕ → ℕ
next_in a k = next_of a.work.now k

abbrev pub name_in : Area → ℕ → Text
name_in a k = name_at a.sheet.now a.work.now k

abbrev pub tree_in : Area → ℕ → Tree
tree_in a k = tree_at a.sheet.now a.work.now k

abbrev pub trees_in : Area → ℕ → Trees
trees_in a k = trees_at a.sheet.now a.work.now k

-- the sort of a tree that is a variable of one
abbrev pub sort_of : Tree → Option Sort
sort_of (variable x) = variable_sort x
sort_of (atom c d) = None
sort_of (apply f ts) = None

-- whether a tree is a sum
abbrev pub sum_in : Tree → Bool
sum_in (variable x) = false
sum_in (atom c d) = false
sum_in (apply f ts) = same f tamtplus

-- cell k holds a tree
abbrev pub CellIn : Area → ℕ → Type 0
CellIn a k = (0 < k) × (k < a.free)

-- there is room for n cells more
abbrev pub HasRoom : Area → ℕ → Type 0
HasRoom a n = (4 * (a.free + n) ≤ length a.work.now) × (a.free + n ≤ 2 ^ 32)

-- b has the sheet and the work area that a was lent
pub record Lent (a b : Area) : Type 0 where
  pub work : b.work.ghost_name ≡ a.work.ghost_name
  pub sheet : b.sheet ≡ a.sheet

-- b is a with the tree t in a new cell k, before the list at a link
pub record Pushes (a b : Area) (k next : ℕ) (t : Tree) : Type 0 where
  pub lent : Lent a b
  pub cell : k ≡ a.free
  pub end : b.free ≡ a.free + 1
  pub linked : Linked a.sheet.now a.work.now b.work.now a.free next t

-- b is a with other words above the cells alone
pub record KeepsCells (a b : Area) : Type 0 where
  pub lent : Lent a b
  pub end : b.free ≡ a.free
  pub below : Below a.work.now b.work.now a.free

-- b is a with more cells, maybe none, and other words above them
pub record Grows (a b : Area) : Type 0 where
  pub lent : Lent a b
  pub grew : a.free ≤ b.free
  pub below : Below a.work.now b.work.now a.free

-- b is a with new cells, maybe none, and no other word changed
pub record Adds (a b : Area) : Type 0 where
  pub lent : Lent a b
  pub grew : a.free ≤ b.free
  pub grown : Grown a.work.now b.work.now a.free b.free
