-- Names that no sheet spells, for variables that stand for fresh ones: x, more zeros than a sheet has bytes, a colon and Msg. Definitions
-- only.
use Rattle.std.specs.Prelude.{ℕ, zero, suc, ◌+◌, Bool, cond, [], ◌∷◌, ◌++◌}
use Rattle.rules.specs.Bytes.{Text}
use Rattle.rules.specs.Text.{bytes}
use Rattle.rules.specs.Variants.{fresh_name, fresh_from}

unfoldable pub zeros : ℕ → Text
zeros zero = []
zeros (suc n) = 48 ∷ zeros n

-- x, so many zeros, a colon and Msg
abbrev pub zeros_name : ℕ → Text
zeros_name n = 120 ∷ (zeros n ++ bytes ":Msg")

-- the n-th name that no sheet spells
unfoldable pub unspelled : ℕ → Text
unspelled n = zeros_name (65536 + n)

-- the names of the fresh variables from a base on, where each that is not spelled is replaced by one that no sheet spells
unfoldable pub chosen : ℕ → (ℕ → Bool) → ℕ → Text
unfolding unspelled fresh_name
chosen base spelled n = cond (spelled n) (fresh_from base n) (unspelled n)
