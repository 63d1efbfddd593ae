-- The loop that composes the bindings.
use Prim.Native.Nat.{◌<◌, ◌≤◌}
use mathlib.Core.Path.{◌≡◌, refl, ap, ◌∙◌}
use mathlib.Core.Bool.{Bool}
use mathlib.Core.List.{List, [], ◌∷◌, reverse_aux}
use Rattle.std.specs.Prelude.{Option, Some, None}
use Rattle.rules.specs.Bytes.{Text}
use Rattle.rules.specs.Tree.{Tree, size}
use Rattle.rules.specs.Substitution.{Binding, instantiate}
use Rattle.rules.specs.Solving.{extended, compose_over, compose}
use Rattle.laws.proofs.Basics.Tests.{true_leb, false_leb}

-- the bindings composed one after the other, over those composed before
abbrev pub composing : List Binding → Option (List Binding) → Option (List Binding)
composing [] o = o
composing (b ∷ bs) o = composing bs (compose_over b.0 b.1 o)

pub composing_is : (bs cs : List Binding) → composing bs (compose cs) ≡ compose (reverse_aux bs cs)
unfolding compose
composing_is [] cs = refl
composing_is (b ∷ bs) cs = composing_is bs (b ∷ cs)

composing_nothing : (bs : List Binding) → composing bs None ≡ None
composing_nothing [] = refl
composing_nothing (b ∷ bs) = composing_nothing bs

module _ (x : Text) (t : Tree) (bs cs : List Binding) where
  pub composing_fits : size (instantiate cs t) ≤ 4096 → composing ((x, t) ∷ bs) (Some cs) ≡ composing bs (Some ((x, instantiate cs t) ∷ cs))
  composing_fits h = ap (λ (c : Bool). composing bs (extended c x (instantiate cs t) cs)) (true_leb (size (instantiate cs t)) 4096 h)

  pub composing_over : 4096 < size (instantiate cs t) → composing ((x, t) ∷ bs) (Some cs) ≡ None
  composing_over h = ap (λ (c : Bool). composing bs (extended c x (instantiate cs t) cs)) (false_leb (size (instantiate cs t)) 4096 h) ∙ composing_nothing bs
