-- What the cells below a free end hold, and what a function that writes cells keeps. Definitions only.
use Rattle.std.specs.Prelude.{ℕ, ◌+◌, ◌*◌, ◌<◌, ◌≤◌, ◌≡◌, List, length, get_or}
use Rattle.rules.specs.Bytes.{Text}
use Rattle.rules.specs.Tree.{Tree, more, size}
use Rattle.text.specs.Frames.{Outside}
use Rattle.tree.specs.Cells.{start_of, length_of, kind_of, nodes_of, first_of, next_of, name_at, variable_kind, tree_at, trees_at}

-- the links of cells 1 to n - 1 fall
pub record Links (w : List ℕ) (n : ℕ) : Type 0 where
  pub some : 0 < n
  pub room : 4 * n ≤ length w
  pub first : (k : ℕ) → 0 < k → k < n → first_of w k < k
  pub next : (k : ℕ) → 0 < k → k < n → next_of w k < k

-- a part of the sheet, or the code of a fixed name
pub record Place (s : Text) (a n : ℕ) : Type 0 where
  pub inside : 0 < n → a + n ≤ length s
  pub code : n ≡ 0 → (0 < a) × (a < 31)

-- what else a cell says: its kind is the name's, its name is no atom's text, its count is the tree's
pub record Cell (s : Text) (w : List ℕ) (k : ℕ) : Type 0 where
  pub placed : Place s (start_of w k) (length_of w k)
  pub small : kind_of w k < 256
  pub sorted : 0 < kind_of w k → kind_of w k < 7 → kind_of w k ≡ variable_kind (name_at s w k)
  pub plain : kind_of w k < 7 → get_or (name_at s w k) 1 0 ≡ 40 → ⊥
  pub counted : nodes_of w k ≡ size (tree_at s w k)

-- cells 1 to n - 1 hold trees
pub record Arena (s : Text) (w : List ℕ) (n : ℕ) : Type 0 where
  pub links : Links w n
  pub cell : (k : ℕ) → 0 < k → k < n → Cell s w k

-- the words below cell n are kept; those from it on are free
pub record Below (w v : List ℕ) (n : ℕ) : Type 0 where
  pub len : length v ≡ length w
  pub words : (p : ℕ) → p < 4 * n → get_or w p 0 ≡ get_or v p 0

-- v is w with new words in the cells n to m - 1 alone
abbrev pub Grown : List ℕ → List ℕ → ℕ → ℕ → Type 0
Grown w v n m = Outside w v (4 * n) (4 * m)

-- v is w with the words of cell n written
pub record WroteCell (w v : List ℕ) (n start len kind first next count : ℕ) : Type 0 where
  pub grown : Grown w v n (n + 1)
  pub start_is : start_of v n ≡ start
  pub length_is : length_of v n ≡ len
  pub kind_is : kind_of v n ≡ kind
  pub first_is : first_of v n ≡ first
  pub next_is : next_of v n ≡ next
  pub count_is : nodes_of v n ≡ count

-- cell n of v is the tree t, before the list at a link
pub record Linked (s : Text) (w v : List ℕ) (n next : ℕ) (t : Tree) : Type 0 where
  pub arena : Arena s v (n + 1)
  pub grown : Grown w v n (n + 1)
  pub tree : tree_at s v n ≡ t
  pub link : next_of v n ≡ next
  pub trees : trees_at s v n ≡ more t (trees_at s w next)
