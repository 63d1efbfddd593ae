-- The runs of canonical words of summands: how they are written, compared and searched.
use Prim.Native.Nat.{ℕ, ◌≤◌}
use mathlib.Core.List.{List, [], ◌∷◌}
use lib.ListN.{length}
use native.Mathlib.Omega.{arith}
use Rattle.tree.specs.Cells.{tree_at}
use Rattle.tree.proofs.Decoding.{size_pos}
use Rattle.sums.specs.Sums.{heft}

-- ---- two runs

-- ---- a search

-- ---- an area that agrees with another on a run

-- ---- the runs are written one after another

-- a tree has a node
pub heft_count : (s w cs : List ℕ) → length cs ≤ heft s w cs
unfolding heft
heft_count s w [] = omega arith
heft_count s w (c ∷ cs) = omega (arith, size_pos (tree_at s w c), heft_count s w cs)
