-- What is left of a sum is its summands, first to last, nested to the right.
use mathlib.Core.Path.{◌≡◌, refl, sym, ◌∙◌, ap, subst}
use mathlib.Core.List.{List, [], ◌∷◌, ◌++◌, append-nil, flat_map}
use mathlib.Core.Logic.{◌↔◌}
use Rattle.rules.specs.Tree.{Tree, plus}
use Rattle.rules.specs.Sums.{summands, rebuild}
use Rattle.laws.specs.Closing.{RightNested, alone, before}

pub nests : (a : Tree) (l : List Tree) → RightNested (a ∷ l) (rebuild a l)
unfolding rebuild
nests a [] = alone
nests a (b ∷ l) = before (nests b l)

pub nests_only : {a t : Tree} {l : List Tree} → RightNested (a ∷ l) t → rebuild a l ≡ t
unfolding rebuild
nests_only alone = refl
nests_only (before {a = a} h) = ap (plus a) (nests_only h)

pub rebuild_nests : (a : Tree) (l : List Tree) (t : Tree) → (rebuild a l ≡ t) ↔ RightNested (a ∷ l) t
rebuild_nests a l t = (λ e. subst (RightNested (a ∷ l)) e (nests a l), nests_only)

pub rebuild_summands : (a : Tree) (l : List Tree) → summands (rebuild a l) ≡ flat_map summands (a ∷ l)
unfolding rebuild summands flat_map
rebuild_summands a [] = sym (append-nil (summands a))
rebuild_summands a (b ∷ l) = ap (λ (m : List Tree). summands a ++ m) (append-nil (summands (rebuild b l)) ∙ rebuild_summands b l)
