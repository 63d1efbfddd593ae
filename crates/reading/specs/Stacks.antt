-- The stack of open lists over the cells of an area, in the words that Words.antt of closing tells. Definitions only.
use Rattle.std.specs.Prelude.{ℕ, zero, suc, ◌+◌, ◌*◌, ◌<◌, ◌≤◌, ◌≡◌, List, length, get_or, Option, Some, None}
use Rattle.rules.specs.Bytes.{Text}
use Rattle.rules.specs.Tree.{Tree, size}
use Rattle.rules.specs.Reading.{parse}
use Rattle.sheet.specs.declared.Place.{Place}
use Rattle.text.specs.Frames.{Outside}
use Rattle.tree.specs.declared.area.Area.{Area}
use Rattle.tree.specs.Areas.{Lent}
use Rattle.tree.specs.Spelled.{text_in}
use Rattle.closing.specs.Words.{NamePlaced, Added, Opened}
use Rattle.closing.specs.Closing.{most, NoTree, closed_level}
use Rattle.reading.specs.Parsing.{stack_end}
use Rattle.reading.specs.Areas.{Reads}
use Rattle.reading.specs.declared.stack.Stack.{Stack}

-- a stack of d levels over the bottom: the last trees of the levels are cells, their names texts of the sheet
pub record HeldIn (a : Area) (limit d : ℕ) : Type 0 where
  pub below : a.free ≤ limit
  pub room : 4 * limit + 3 * d < length a.work.now
  pub trees : (i : ℕ) → i ≤ d → get_or a.work.now (4 * limit + 3 * i) 0 < a.free
  pub names : (i : ℕ) → i < d → NamePlaced a.sheet.now (get_or a.work.now (4 * limit + 3 * i + 1) 0) (get_or a.work.now (4 * limit + 3 * i + 2) 0)

-- b is a with a tree put on the top level
pub record AddsTo (a b : Area) (k : Stack) (t : Tree) : Type 0 where
  pub lent : Lent a b
  pub added : Added a.sheet.now a.work.now b.work.now a.free b.free k.limit k.depth t

-- b is a with a level opened over the top
pub record OpensOn (a b : Area) (k : Stack) (name : Text) : Type 0 where
  pub lent : Lent a b
  pub end : b.free ≡ a.free
  pub opened : Opened a.sheet.now a.work.now b.work.now a.free k.limit k.depth name

-- the tree of the level above the top
abbrev pub level_tree : Area → Stack → Option Tree
level_tree a k = closed_level a.sheet.now a.work.now k.limit k.depth

-- b is a with that tree put on the top
pub record ClosedOn (a b : Area) (k : Stack) : Type 0 where
  pub tree : Tree
  pub is : level_tree a k ≡ Some tree
  pub small : size tree ≤ 4096
  pub grew : a.free < b.free
  pub room : b.free ≤ most a.sheet.now a.work.now a.free (get_or a.work.now (4 * k.limit + 3 * k.depth + 3) 0)
  pub adds : AddsTo a b k tree

-- or there is none, or too large a one, and no new cell
abbrev pub ClosesOn : Area → Area → Stack → Option ℕ → Type 0
ClosesOn a b k (Some i) = ClosedOn a b k
ClosesOn a b k None = NoTree (level_tree a k) × Lent a b × Outside a.work.now b.work.now (4 * a.free) (4 * k.limit) × (b.free ≡ a.free)

-- the tree of the bottom, where no list is open
abbrev pub bottom_of : List ℕ → ℕ → ℕ → Option ℕ
bottom_of w limit zero = Some (get_or w (4 * limit) 0)
bottom_of w limit (suc d) = None

-- the text at a place reads as the tree of a cell, or is no term, and then there may be new cells
abbrev pub ReadsUp : Area → Area → Place → Option ℕ → Type 0
ReadsUp a b p (Some i) = Reads a b p i
ReadsUp a b p None = (parse (text_in a p) ≡ None) × Lent a b × Outside a.work.now b.work.now (4 * a.free) (stack_end a.free p.from p.to) × (a.free ≤ b.free)
