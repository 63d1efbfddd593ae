-- Summands that are left of a sum: paired as a sum with one tree, and their nodes.
use mathlib.Core.Path.{◌≡◌, refl}
use mathlib.Core.Bool.{true}
use mathlib.Core.List.{List, [], ◌∷◌}
use native.Mathlib.Omega.{arith}
use Rattle.rules.specs.Tree.{Tree}
use Rattle.rules.specs.Sums.{rebuild}
use Rattle.rules.specs.Solving.{remainder}
use Rattle.rules.specs.Solving as rules
use Rattle.laws.proofs.Sheets.BuiltMatch.{mass}
use Rattle.sums.specs.Sums.{heavy}

pub sum_paired : (t : Tree) (ts : List Tree) (o : Tree) → remainder true (t ∷ ts) (o ∷ []) ≡ rules.equation (rebuild t ts) o
unfolding rebuild
sum_paired t [] o = refl
sum_paired t (u ∷ us) o = refl

pub heavy_mass : (ts : List Tree) → heavy ts ≡ mass ts
unfolding heavy
heavy_mass [] = refl
heavy_mass (t ∷ ts) = omega (arith, heavy_mass ts)
