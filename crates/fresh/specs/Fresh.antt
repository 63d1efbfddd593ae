-- The names of the fresh variables of a sheet. Definitions only.
use Rattle.std.specs.Prelude.{ℕ}
use Rattle.rules.specs.Bytes.{Text}
use Rattle.rules.specs.Variants.{fresh_from}
use Rattle.laws.specs.Unspelled.{chosen}
use Rattle.fresh.specs.Searching.{spells}

-- the names of the fresh variables from a base on: those that the sheet spells, and others that no sheet spells
abbrev pub chosen_in : Text → ℕ → ℕ → Text
chosen_in s base = chosen base (λ n. spells s (fresh_from base n))
