-- A list as it is written after its name: each term after a mark, the bracket 40 and then commas, and the bracket 41. Definitions only.
use Rattle.std.specs.Prelude.{ℕ, cond, List, [], ◌∷◌, ◌++◌, eqb}
use Rattle.rules.specs.Bytes.{Text}

unfoldable pub marked : ℕ → List Text → Text
marked m [] = cond (eqb m 40) [] (41 ∷ [])
marked m (t ∷ ts) = m ∷ (t ++ marked 44 ts)
