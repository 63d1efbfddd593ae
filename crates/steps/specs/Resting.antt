-- Trees that are left of a sum. Definitions only.
use Rattle.std.specs.Prelude.{◌≡◌, List, ◌∷◌}
use Rattle.rules.specs.Tree.{Tree}

-- two trees or more
abbrev pub Several : List Tree → Type 0
Several ts = (t : Tree) × (u : Tree) × (us : List Tree) × (ts ≡ t ∷ u ∷ us)
