-- The cells of summands in the work area, and the runs of their canonical words. Definitions only.
use Rattle.std.specs.Prelude.{ℕ, suc, ◌+◌, Bool, cond, not, ◌&&◌, ◌||◌, List, [], ◌∷◌, ◌++◌, eqb}
use Rattle.rules.specs.Tree.{Tree, size, ground}
use Rattle.rules.specs.Sums.{equivalent}
use Rattle.tree.specs.Cells.{tree_at}

-- the trees of the cells with these numbers, but 0
unfoldable pub remaining : List ℕ → List ℕ → List ℕ → List Tree
remaining s w [] = []
remaining s w (c ∷ cs) = cond (eqb c 0) (remaining s w cs) (tree_at s w c ∷ remaining s w cs)

-- their nodes
unfoldable pub heft : List ℕ → List ℕ → List ℕ → ℕ
heft s w [] = 0
heft s w (c ∷ cs) = size (tree_at s w c) + heft s w cs

-- the place of the first of the cells, but 0, whose tree passes the test
unfoldable pub index : (Tree → Bool) → List ℕ → List ℕ → List ℕ → ℕ
index f s w [] = 0
index f s w (c ∷ cs) = cond (not (eqb c 0) && f (tree_at s w c)) 0 (suc (index f s w cs))

-- two trees cancel: the first one is any, or without variables, and they are equal
abbrev pub test : Bool → Tree → Tree → Bool
test b t u = (b || ground t) && equivalent t u

-- trees in front of what cancelling keeps of the left
abbrev pub ahead : List Tree → List Tree × List Tree → List Tree × List Tree
ahead ts c = (ts ++ c.0, c.1)

-- the nodes of trees, and one more for each
unfoldable pub heavy : List Tree → ℕ
heavy [] = 0
heavy (t ∷ ts) = size t + 1 + heavy ts
