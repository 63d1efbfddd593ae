-- Lists of equations one after the other.
use Prim.Native.Nat.{◌*◌}
use native.Mathlib.Omega.{arith}
use mathlib.Core.Path.{◌≡◌, refl, ap}
use mathlib.Core.List.{List, [], ◌∷◌, ◌++◌}
use lib.ListN.{length}
use Rattle.rules.specs.Tree.{Trees, none, more, count}
use Rattle.rules.specs.Substitution.{Pair, flatten}
use Rattle.schemes.specs.Choices.{appended}

pub flatten_append : (ps qs : List Pair) → flatten (ps ++ qs) ≡ appended (flatten ps) (flatten qs)
unfolding flatten appended
flatten_append [] qs = refl
flatten_append (p ∷ ps) qs = ap (λ (ts : Trees). more p.0 (more p.1 ts)) (flatten_append ps qs)

pub count_flatten : (ps : List Pair) → count (flatten ps) ≡ 2 * length ps
unfolding flatten
count_flatten [] = refl
count_flatten (p ∷ ps) = omega (arith, count_flatten ps)

pub appended_none : (ts : Trees) → appended ts none ≡ ts
unfolding appended
appended_none none = refl
appended_none (more t ts) = ap (more t) (appended_none ts)
