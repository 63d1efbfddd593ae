-- How many waiting pairs are known not to be all of one tree twice. Definitions only.
use Rattle.std.specs.Prelude.{ℕ, zero, suc, ◌<◌, ◌≡◌, Bool, true, false, cond, ◌&&◌, List, [], ◌∷◌, eqb}
use Rattle.rules.specs.Tree.{Trees, count, same_tree}
use Rattle.rules.specs.Substitution.{Pair}

-- each of the first k pairs is one tree twice
unfoldable pub all_same : ℕ → List Pair → Bool
unfolding same_tree
all_same zero ps = true
all_same (suc k) [] = true
all_same (suc k) (p ∷ ps) = same_tree p.0 p.1 && all_same k ps

-- if k is not 0, one of the first k pairs has two different trees
abbrev pub Differing : ℕ → List Pair → Type 0
Differing k ps = 0 < k → all_same k ps ≡ false

-- how many trees two lists have, 0 where one has more
unfoldable pub common_count : Trees → Trees → ℕ
common_count ts us = cond (eqb (count ts) (count us)) (count ts) 0
