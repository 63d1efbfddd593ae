-- Bindings in cells: one list of trees, the key and the value of each binding in turn. Definitions only.
use Rattle.std.specs.Prelude.{ℕ, ◌<◌, ◌≡◌, List, [], ◌∷◌}
use Rattle.std.specs.Prelude.{Option, Some, None}
use Rattle.rules.specs.Bytes.{Text}
use Rattle.rules.specs.Tree.{Tree, variable, atom, apply, Trees, none, more}
use Rattle.rules.specs.Substitution.{Binding, lookup}
use Rattle.rules.specs.Matching.{bound}
use Rattle.tree.specs.Cells.{tree_at, trees_at}

-- the name that a tree is a key by
unfoldable pub key_of : Tree → Text
key_of (variable x) = x
key_of (atom c d) = d
key_of (apply f ts) = f

-- the bindings of a list of trees, after a key that waits for its value
unfoldable pub keyed : Trees → Option Text → List Binding
unfolding key_of
keyed none o = []
keyed (more t ts) None = keyed ts (Some (key_of t))
keyed (more t ts) (Some x) = (x, t) ∷ keyed ts None

unfoldable pub bindings_of : Trees → List Binding
unfolding keyed
bindings_of ts = keyed ts None

-- the list of bindings
unfoldable pub flatten_bindings : List Binding → Trees
flatten_bindings [] = none
flatten_bindings (b ∷ bs) = more (variable b.0) (more b.1 (flatten_bindings bs))

-- a list of bindings and nothing else
abbrev pub Chain : Trees → Type 0
Chain ts = flatten_bindings (bindings_of ts) ≡ ts

-- the bindings from cell b on
abbrev pub bindings_at : Text → List ℕ → ℕ → List Binding
bindings_at s w b = bindings_of (trees_at s w b)

-- the first binding of x has the tree of cell k for its value
pub record FoundAt (s : Text) (w : List ℕ) (n : ℕ) (bs : List Binding) (x : Text) (k : ℕ) : Type 0 where
  pub some_cell : 0 < k
  pub inside : k < n
  pub is_bound : bound x bs ≡ Some (tree_at s w k)
  pub is_value : lookup bs x ≡ tree_at s w k
