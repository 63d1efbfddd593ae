-- What closing a list makes of its trees, which stand as cells of an area, the last first. Definitions only.
use Rattle.std.specs.Prelude.{ℕ, ◌+◌, ◌*◌, ◌≤◌, ◌<◌, ◌≡◌, Bool, true, false, Option, Some, None}
use Rattle.rules.specs.Bytes.{Text}
use Rattle.rules.specs.Names.{digit, all}
use Rattle.rules.specs.Tree.{Tree, apply, none, more, size, sizes, count}
use Rattle.rules.specs.Reading.{atom_of}
use Rattle.tree.specs.declared.area.Area.{Area}
use Rattle.tree.specs.Arena.{Grown}
use Rattle.tree.specs.Areas.{name_in, trees_in, Lent, Adds}
use Rattle.closing.specs.declared.Ordered.{Ordered}
use Rattle.closing.specs.Machine.{back}
use Rattle.closing.specs.Closing.{NoTree}

-- the cells that closing a list may take
abbrev pub room_for : Area → ℕ → ℕ
room_for a chain = 2 * count (trees_in a chain) + 2

-- the trees once more, in their order
pub record OrdersIn (a b : Area) (chain : ℕ) (r : Ordered) : Type 0 where
  pub adds : Adds a b
  pub used : b.free ≤ a.free + count (trees_in a chain)
  pub inside : r.first < b.free
  pub trees : trees_in b r.first ≡ back (trees_in a chain) none
  pub counted : r.nodes ≡ sizes (trees_in a chain)
  pub small : r.nodes ≤ 4095

-- or more nodes than an application may have below it, and no new cell
abbrev pub PutsInOrder : Area → Area → ℕ → Option Ordered → Type 0
PutsInOrder a b chain (Some r) = OrdersIn a b chain r
PutsInOrder a b chain None = (4095 < sizes (trees_in a chain)) × Adds a b × (b.free ≡ a.free)

-- the tree that a closed list is, in the new cell k, which is the last, before the list from cell next on
pub record Shuts (a b : Area) (room next : ℕ) (o : Option Tree) (k : ℕ) : Type 0 where
  pub tree : Tree
  pub is : o ≡ Some tree
  pub small : size tree ≤ 4096
  pub adds : Adds a b
  pub used : b.free ≤ a.free + room
  pub some_cell : 0 < k
  pub inside : k < b.free
  pub new : a.free ≤ k
  pub last : k + 1 ≡ b.free
  pub trees : trees_in b k ≡ more tree (trees_in a next)

-- or no tree, or too large a one, and no new cell: other words alone stand where it might have been
abbrev pub ClosesIn : Area → Area → ℕ → ℕ → Option Tree → Option ℕ → Type 0
ClosesIn a b room next o (Some k) = Shuts a b room next o k
ClosesIn a b room next o None = NoTree o × Lent a b × (b.free ≡ a.free) × Grown a.work.now b.work.now a.free (a.free + room)

-- the same of a sum without a link, but that its cells stay where it is too large
abbrev pub NestsIn : Area → Area → ℕ → Option Tree → Option ℕ → Type 0
NestsIn a b room o (Some k) = Shuts a b room 0 o k
NestsIn a b room o None = NoTree o × Adds a b × (b.free ≤ a.free + room)

-- whether a list is one application of digits without children
abbrev pub AloneIn : Area → ℕ → Bool → Type 0
AloneIn a k true = (0 < k) × (trees_in a k ≡ more (apply (name_in a k) none) none) × (all digit (name_in a k) ≡ true)
AloneIn a k false = (n : Text) → atom_of n (trees_in a k) ≡ None
