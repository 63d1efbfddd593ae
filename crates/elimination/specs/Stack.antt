-- The waiting pairs as one list of trees in the work area: left, right, left, right. Definitions only.
use Rattle.std.specs.Prelude.{ℕ, ◌≤◌, ◌≡◌, List, [], ◌∷◌}
use Rattle.std.specs.Prelude.{Option, Some, None}
use Rattle.rules.specs.Bytes.{Text}
use Rattle.rules.specs.Tree.{Tree, Trees, none, more, size}
use Rattle.rules.specs.Substitution.{Binding, Pair, flatten}
use Rattle.rules.specs.Tidy.{Built}
use Rattle.tree.specs.Cells.{trees_at}

-- the pairs of a list, after a left side that waits for its right
unfoldable pub pairing : Trees → Option Tree → List Pair
pairing none o = []
pairing (more t ts) None = pairing ts (Some t)
pairing (more t ts) (Some l) = (l, t) ∷ pairing ts None

unfoldable pub pairs_of : Trees → List Pair
unfolding pairing
pairs_of ts = pairing ts None

-- a list of pairs and nothing else
abbrev pub Whole : Trees → Type 0
Whole ts = flatten (pairs_of ts) ≡ ts

-- the pairs from cell k on
abbrev pub pairs_at : Text → List ℕ → ℕ → List Pair
pairs_at s w k = pairs_of (trees_at s w k)

-- two lists pairwise, as far as both go, before a list
unfoldable pub pushes : Trees → Trees → Trees → Trees
pushes none us ps = ps
pushes (more t ts) none ps = ps
pushes (more t ts) (more u us) ps = more t (more u (pushes ts us ps))

-- a tree as reading builds it, of at most 4,096 nodes
pub record Fit (t : Tree) : Type 0 where
  pub built : Built t
  pub small : size t ≤ 4096

abbrev pub FitPairs : List Pair → Type 0
FitPairs [] = Unit {0}
FitPairs (p ∷ ps) = Fit p.0 × Fit p.1 × FitPairs ps

-- of the values
abbrev pub FitBindings : List Binding → Type 0
FitBindings [] = Unit {0}
FitBindings (b ∷ bs) = Fit b.1 × FitBindings bs
