-- The right-nested sum of cells that are not taken out.
use Prim.Native.Nat.{ℕ, suc, ◌+◌, ◌≤◌}
use mathlib.Core.Path.{◌≡◌}
use mathlib.Core.Bool.{Bool, true, false, cond}
use mathlib.Core.List.{List, [], ◌∷◌, ◌++◌}
use lib.Dec.{eqb}
use lib.ListN.{length}
use native.Mathlib.Omega.{arith}
use Rattle.rules.specs.Tree.{Tree, size}
use Rattle.rules.specs.Sums.{rebuild}
use Rattle.tree.specs.Cells.{tree_at}
use Rattle.sums.specs.Sums.{remaining, heavy}

-- ---- a sum of two cells

-- ---- lists of cells

pub remaining_length : (s w cs : List ℕ) → length (remaining s w cs) ≤ length cs
unfolding remaining
remaining_length s w [] = omega arith
remaining_length s w (c ∷ cs) = go (eqb c 0) (remaining_length s w cs)
  where
    go : (b : Bool) → length (remaining s w cs) ≤ length cs → length (cond b (remaining s w cs) (tree_at s w c ∷ remaining s w cs)) ≤ suc (length cs)
    go true h = omega arith
    go false h = omega arith

pub heavy_append : (ts us : List Tree) → heavy (ts ++ us) ≡ heavy ts + heavy us
unfolding heavy
heavy_append [] us = omega arith
heavy_append (t ∷ ts) us = omega (arith, heavy_append ts us)

pub rebuild_size : (a : Tree) (xs : List Tree) → size (rebuild a xs) + 1 ≡ heavy (a ∷ xs)
unfolding rebuild heavy size
rebuild_size a [] = omega arith
rebuild_size a (b ∷ bs) = omega (arith, rebuild_size b bs)

-- ---- the turns of the loop, from the last cell to the first
