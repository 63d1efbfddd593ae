-- One above the indices of variables, by their names. Definitions only.
use Rattle.std.specs.Prelude.{ℕ, suc, max, List, [], ◌∷◌}
use Rattle.std.specs.Prelude.{Option, Some}
use Rattle.rules.specs.Bytes.{Text}
use Rattle.rules.specs.Maybe.{◌>>=◌}
use Rattle.rules.specs.Variants.{index_of}

-- one above every index, from a base on; none where a name has no index
unfoldable pub names_base_from : ℕ → List Text → Option ℕ
unfolding index_of
names_base_from base [] = Some base
names_base_from base (x ∷ xs) = index_of x >>= λ i. names_base_from (max base (suc i)) xs

abbrev pub names_base : List Text → Option ℕ
names_base xs = names_base_from 0 xs
