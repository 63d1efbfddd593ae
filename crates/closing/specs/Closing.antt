-- What closing a list makes of its trees, which stand as cells, the last first. Definitions only.
use Rattle.std.specs.Prelude.{ℕ, ◌+◌, ◌*◌, ◌<◌, ◌≡◌, List, get_or}
use Rattle.std.specs.Prelude.{Option, Some}
use Rattle.rules.specs.Bytes.{Text}
use Rattle.rules.specs.Tree.{Tree, Trees, none, more, size, plus, count}
use Rattle.rules.specs.Reading.{close}
use Rattle.tree.specs.Cells.{part, trees_at}
use Rattle.closing.specs.Machine.{back}

-- the cells that closing a list may take, with those below n
abbrev pub most : Text → List ℕ → ℕ → ℕ → ℕ
most s w n chain = n + 2 * count (trees_at s w chain) + 2

-- no tree, or too large a one
abbrev pub NoTree : Option Tree → Type 0
NoTree o = (t : Tree) → o ≡ Some t → 4096 < size t

-- summands in front of a sum, the last first
unfoldable pub summed : Tree → Trees → Tree
summed t none = t
summed t (more u us) = summed (plus u t) us

-- the name and the trees of the level d + 1, closed
abbrev pub closed_level : Text → List ℕ → ℕ → ℕ → Option Tree
closed_level s w limit d = close (part s (get_or w (4 * limit + 3 * d + 1) 0) (get_or w (4 * limit + 3 * d + 2) 0)) (back (trees_at s w (get_or w (4 * limit + 3 * d + 3) 0)) none)
