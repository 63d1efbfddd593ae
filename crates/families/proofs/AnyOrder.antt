-- Whether some member generalizes does not depend on the order of the members.
use mathlib.Core.Path.{◌≡◌, refl, sym, ap, ◌∙◌}
use mathlib.Core.Bool.{Bool, true, false, ◌||◌}
use mathlib.Core.List.{List, [], ◌∷◌, ◌++◌, map, reverse, reverse_aux}
use Rattle.rules.specs.Bytes.{Text}
use Rattle.rules.specs.Tree.{Tree}
use Rattle.rules.specs.Substitution.{Binding, lookup}
use Rattle.rules.specs.Cover.{covering}
use Rattle.rules.specs.Variants.{Variant, generalized}

module _ (xs : List Text) (bs : List Binding) (value : Tree) where
  generalizes : Variant → Bool
  generalizes m = covering (map (λ x. (lookup m.1 x, lookup bs x)) xs ++ ((m.0, value) ∷ []))

  by_first : (m : Variant) (ms : List Variant) → generalized xs (m ∷ ms) bs value ≡ generalizes m || generalized xs ms bs value
  unfolding generalized generalizes
  by_first m ms = go (covering (map (λ x. (lookup m.1 x, lookup bs x)) xs ++ ((m.0, value) ∷ []))) (generalized xs ms bs value)
    where
      go : (b c : Bool) → elim b [ true ↦ true | false ↦ c ] ≡ b || c
      go true c = refl
      go false c = refl

  moved : (a b c : Bool) → a || (b || c) ≡ (b || a) || c
  moved true true c = refl
  moved true false c = refl
  moved false true c = refl
  moved false false c = refl

  either_part : (ms ns : List Variant) → generalized xs (reverse_aux ms ns) bs value ≡ generalized xs ms bs value || generalized xs ns bs value
  unfolding generalized
  either_part [] ns = refl
  either_part (m ∷ ms) ns =
      either_part ms (m ∷ ns) ∙ ap (λ (b : Bool). generalized xs ms bs value || b) (by_first m ns)
      ∙ moved (generalized xs ms bs value) (generalizes m) (generalized xs ns bs value)
      ∙ sym (ap (λ (b : Bool). b || generalized xs ns bs value) (by_first m ms))

  or_none : (b : Bool) → b || false ≡ b
  or_none true = refl
  or_none false = refl

  pub generalized_reverse : (ms : List Variant) → generalized xs (reverse ms) bs value ≡ generalized xs ms bs value
  unfolding generalized
  generalized_reverse ms = either_part ms [] ∙ or_none (generalized xs ms bs value)
