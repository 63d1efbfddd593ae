-- The pair on top of the waiting pairs of an area. Definitions only.
use Rattle.std.specs.Prelude.{ℕ, ◌+◌, ◌<◌, ◌≡◌, List, [], ◌∷◌, Option, Some, None}
use Rattle.rules.specs.Tree.{variable}
use Rattle.rules.specs.Substitution.{Pair}
use Rattle.laws.specs.Memory.{load}
use Rattle.tree.specs.declared.area.Area.{Area}
use Rattle.tree.specs.Areas.{name_in, tree_in, trees_in, CellIn}
use Rattle.elimination.specs.Stack.{Whole, Fit, FitPairs}
use Rattle.elimination.specs.Area.{Room}
use Rattle.elimination.specs.Areas.{pairs_in}
use Rattle.elimination.specs.declared.front.Front.{Front}

-- two trees, and pairs below them
abbrev pub FrontIn : Area → Front → Type 0
FrontIn a f = CellIn a f.left × CellIn a f.right × (f.rest < a.free) × Whole (trees_in a f.rest)

-- fit pairs and nothing else from cell k on
abbrev pub StackIn : Area → ℕ → Type 0
StackIn a k = (k < a.free) × Whole (trees_in a k) × FitPairs (pairs_in a k)

-- the left tree is a variable
abbrev pub KeyIn : Area → Front → Type 0
KeyIn a f = tree_in a f.left ≡ variable (name_in a f.left)

-- both trees are fit
abbrev pub FitFront : Area → Front → Type 0
FitFront a f = Fit (tree_in a f.left) × Fit (tree_in a f.right)

-- the load of the two trees
abbrev pub load_in : Area → Front → ℕ
load_in a f = load (tree_in a f.left) (tree_in a f.right)

-- room for the step that takes them
abbrev pub FrontRoom : Area → Front → Type 0
FrontRoom a f = Room a.work.now (a.free + load_in a f + 2)

-- the other way round
abbrev pub turned_front : Front → Front
turned_front f = record { left = f.right; right = f.left; rest = f.rest }

-- what is on top of the pairs ps
abbrev pub TopIn : Area → List Pair → Option Front → Type 0
TopIn a ps None = ps ≡ []
TopIn a ps (Some f) = FrontIn a f × (ps ≡ (tree_in a f.left, tree_in a f.right) ∷ pairs_in a f.rest)
