-- Lists of variables, and lists of pairs.
use mathlib.Core.Path.{◌≡◌, refl, ap}
use mathlib.Core.List.{List, [], ◌∷◌}
use Rattle.rules.specs.Tree.{Tree, variable, Trees, none, more}
use Rattle.rules.specs.Substitution.{Pair, flatten}
use Rattle.substitution.specs.Bindings.{key_of}
use Rattle.variables.specs.Listing.{variable_list}
use Rattle.variables.specs.Pairing.{names_of, OfVariables, flatten_before}

-- a list of variables, by its first and the others
pub first_variable : (t : Tree) (ts : Trees) → OfVariables (more t ts) → (t ≡ variable (key_of t)) × OfVariables ts
unfolding names_of variable_list
first_variable t ts e = (cc, cc)

pub before_none : (ps : List Pair) → flatten_before ps none ≡ flatten ps
unfolding flatten_before flatten
before_none [] = refl
before_none (p ∷ ps) = ap (λ (ts : Trees). more p.0 (more p.1 ts)) (before_none ps)
