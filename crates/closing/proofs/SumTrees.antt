-- Sums of trees that stand last first.
use Prim.Native.Nat.{◌≤◌}
use native.Mathlib.Omega.{arith}
use mathlib.Core.Path.{◌≡◌, refl, sym, ap, ◌∙◌}
use Rattle.std.specs.Prelude.{Some}
use Rattle.laws.proofs.Basics.Somes.{none_ne_some}
use Rattle.rules.specs.Tree.{Tree, Trees, none, more, size, plus}
use Rattle.rules.specs.Reading.{nested, sum_of}
use Rattle.closing.specs.Machine.{back}
use Rattle.closing.specs.Closing.{summed, NoTree}

pub summed_size : (t : Tree) (us : Trees) → size t ≤ size (summed t us)
unfolding summed size
summed_size t none = omega arith
summed_size t (more u us) = let h = summed_size (plus u t) us in omega arith

sum_back : (ts : Trees) (t u : Tree) (us : Trees) → sum_of (back ts (more t (more u us))) ≡ Some (summed (nested t (more u us)) ts)
unfolding sum_of back summed nested
sum_back none t u us = refl
sum_back (more v ts) t u us = sum_back ts v t (more u us)

-- two summands or more
pub sum_is : (t u : Tree) (us : Trees) → sum_of (back (more t (more u us)) none) ≡ Some (summed t (more u us))
unfolding back summed nested
sum_is t u us = sum_back us u t none

-- no summand, and one
pub no_sum : (ts : Trees) → ts ≡ none → NoTree (sum_of (back ts none))
unfolding sum_of back
no_sum ts e t h = absurd (none_ne_some t (sym (ap (λ (x : Trees). sum_of (back x none)) e) ∙ h))

pub no_second : (ts : Trees) (u : Tree) → ts ≡ more u none → NoTree (sum_of (back ts none))
unfolding sum_of back
no_second ts u e t h = absurd (none_ne_some t (sym (ap (λ (x : Trees). sum_of (back x none)) e) ∙ h))
