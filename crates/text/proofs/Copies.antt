-- A list of one that is copied.
use mathlib.Core.Path.{◌≡◌, ap}
use mathlib.Core.List.{List, [], ◌∷◌}
use native.Mathlib.Omega.{arith}
use Rattle.std.specs.Prelude.{◌<◌, ◌≤◌}
use lib.ListN.{length, get_or, set}

pub one_copied : {A : Type 0} → (xs ys : List A) (x : A) → length xs ≡ length ys → 1 ≤ length ys → length ys < 2 → x ≡ get_or ys 0 x → set xs 0 x ≡ ys
one_copied xs [] x e f g h = absurd (omega (arith, f))
one_copied [] (b ∷ ys) x e f g h = absurd (omega (arith, e))
one_copied (a ∷ []) (b ∷ []) x e f g h = ap (λ z. z ∷ []) h
one_copied (a ∷ a2 ∷ xs) (b ∷ []) x e f g h = absurd (omega (arith, e))
one_copied xs (b ∷ c ∷ ys) x e f g h = absurd (omega (arith, g))
