-- Sums in an area: which trees are sums, their summands in the words above the cells, and the sum of what is left. Definitions only.
use Rattle.std.specs.Prelude.{ℕ, ◌+◌, ◌*◌, ◌<◌, ◌≤◌, ◌≡◌, Bool, List, [], ◌∷◌, Option, Some, None, length, get_or, take}
use Rattle.std.proofs.Math.Seq.{slice}
use Rattle.rules.specs.Tree.{Tree}
use Rattle.rules.specs.Sums.{summands, rebuild}
use Rattle.rules.specs.Solving.{cancel}
use Rattle.tree.specs.declared.area.Area.{Area}
use Rattle.tree.specs.Areas.{tree_in, next_in, KeepsCells, Adds}
use Rattle.text.specs.Frames.{Outside}
use Rattle.sums.specs.Sums.{remaining, test}
use Rattle.sums.specs.Summands.{test_of, trees_of}
use Rattle.sums.specs.declared.striking.Cancelling.{Cancelling}
use Rattle.sums.specs.declared.Summands.{Summands}

-- the trees of the cells in the words from one position to another, but 0
abbrev pub remaining_in : Area → ℕ → ℕ → List Tree
remaining_in a at end = remaining a.sheet.now a.work.now (slice at end a.work.now)

-- the first words are the cells of the summands of l and r, cancelled: those of l up to mid, those of r up to end; k is the nodes of both
pub record CancelsIn (a : Area) (v : List ℕ) (mid end k : ℕ) (l r : Tree) (c : Cancelling) : Type 0 where
  pub high : mid ≤ end
  pub bound : end ≤ k
  pub cells : (q : ℕ) → q < end → get_or v q 0 < a.free
  pub are : cancel (test_of c) (summands l) (summands r) ≡ (trees_of a (take mid v), trees_of a (slice mid end v))

-- b has the cells of the summands of l and r, cancelled, in the words from `at` on: p says where those of l start, where those of r start
-- and where they end; k is the nodes of both
pub record PreparedAt (a b : Area) (p : Summands) (at k : ℕ) (l r : Tree) (every : Bool) : Type 0 where
  pub keeps : KeepsCells a b
  pub outside : Outside a.work.now b.work.now p.at (p.at + 17 * k + 2)
  pub start : p.at ≡ at
  pub low : p.at ≤ p.mid
  pub high : p.mid ≤ p.end
  pub bound : p.end ≤ p.at + k
  pub cells : (q : ℕ) → p.at ≤ q → q < p.end → get_or b.work.now q 0 < a.free
  pub are : cancel (test every) (summands l) (summands r) ≡ (remaining_in b p.at p.mid, remaining_in b p.mid p.end)

-- the same above the cells, with room for two cells for each node below them
abbrev pub Prepared : Area → Area → Summands → ℕ → Tree → Tree → Bool → Type 0
Prepared a b p k l r every = PreparedAt a b p (4 * (a.free + 2 * k)) k l r every

-- b is a with two new cells: cell i is the tree t, and has no next sibling
pub record AddsSum (a b : Area) (i : ℕ) (t : Tree) : Type 0 where
  pub adds : Adds a b
  pub end : b.free ≡ a.free + 2
  pub some_cell : 0 < i
  pub inside : i < b.free
  pub tree : tree_in b i ≡ t
  pub link : next_in b i ≡ 0

-- cell i is the right-nested sum of trees, at least one
pub record SumAt (b : Area) (ts : List Tree) (i : ℕ) : Type 0 where
  pub some_cell : 0 < i
  pub inside : i < b.free
  pub head : Tree
  pub tail : List Tree
  pub are : ts ≡ head ∷ tail
  pub tree : tree_in b i ≡ rebuild head tail
  pub link : next_in b i ≡ 0

-- a cell that is the sum of trees, or there are none
abbrev pub SumIn : Area → List Tree → Option ℕ → Type 0
SumIn b ts None = ts ≡ []
SumIn b ts (Some i) = SumAt b ts i

-- b is a with new cells: the sum of trees, if there are any
pub record Summed (a b : Area) (ts : List Tree) (o : Option ℕ) : Type 0 where
  pub adds : Adds a b
  pub used : b.free ≤ a.free + 2 * length ts
  pub sum : SumIn b ts o
