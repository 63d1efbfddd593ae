-- The stack of the term reader in words of the work area, above the cells, which are fewer than a limit. The bottom has one word, from
-- 4 * limit on, and each level three more: the start and the length of its name in the sheet, and in the last, as in the bottom's, the
-- cell of the last tree read, 0 for none; the link of a tree's cell leads to the tree before it. Definitions only.
use Rattle.std.specs.Prelude.{ℕ, zero, suc, ◌+◌, ◌*◌, ◌≤◌, ◌<◌, ◌≡◌, List, length, get_or}
use Rattle.rules.specs.Bytes.{Text}
use Rattle.rules.specs.Tree.{Tree, none}
use Rattle.text.specs.Frames.{Outside}
use Rattle.tree.specs.Cells.{part, trees_at}
use Rattle.tree.specs.Arena.{Arena}
use Rattle.closing.specs.Machine.{Stack, bottom, level, add}

unfoldable pub stack_at : Text → List ℕ → ℕ → ℕ → Stack
stack_at s w limit zero = bottom (trees_at s w (get_or w (4 * limit) 0))
stack_at s w limit (suc d) =
    level (part s (get_or w (4 * limit + 3 * d + 1) 0) (get_or w (4 * limit + 3 * d + 2) 0)) (trees_at s w (get_or w (4 * limit + 3 * d + 3) 0)) (stack_at s w limit d)

-- a name in the sheet
pub record NamePlaced (s : Text) (a n : ℕ) : Type 0 where
  pub some : 0 < n
  pub inside : a + n ≤ length s
  pub short : n < 65536
  pub plain : get_or (part s a n) 1 0 ≡ 40 → ⊥

-- cells up to n, and a stack of d levels over the bottom
pub record Held (s : Text) (w : List ℕ) (n limit d : ℕ) : Type 0 where
  pub arena : Arena s w n
  pub below : n ≤ limit
  pub room : 4 * limit + 3 * d < length w
  pub trees : (i : ℕ) → i ≤ d → get_or w (4 * limit + 3 * i) 0 < n
  pub names : (i : ℕ) → i < d → NamePlaced s (get_or w (4 * limit + 3 * i + 1) 0) (get_or w (4 * limit + 3 * i + 2) 0)

-- a tree is put on the level d of the stack
pub record Added (s : Text) (w v : List ℕ) (n m limit d : ℕ) (t : Tree) : Type 0 where
  pub held : Held s v m limit d
  pub stack : stack_at s v limit d ≡ add t (stack_at s w limit d)
  pub outside : Outside w v (4 * n) (4 * limit + 3 * d + 1)

-- a level is opened over the level d
pub record Opened (s : Text) (w v : List ℕ) (n limit d : ℕ) (name : Text) : Type 0 where
  pub held : Held s v n limit (d + 1)
  pub stack : stack_at s v limit (d + 1) ≡ level name none (stack_at s w limit d)
  pub outside : Outside w v (4 * n) (4 * limit + 3 * d + 4)
