-- What bindings do: they are well-sorted substitutions, and put into pairs they keep the unifiers that agree with them.
--
use mathlib.Core.Path.{◌≡◌, refl, sym, subst, ◌∙◌}
use mathlib.Core.Bool.{Bool, true, false}
use mathlib.Core.List.{List, [], ◌∷◌}
use mathlib.Core.Logic.{◌↔◌}
use Rattle.std.specs.Prelude.{Some}
use Prim.Native.Nat.{ℕ}
use Rattle.rules.specs.Bytes.{Text, same}
use Rattle.rules.specs.Names.{variable_token}
use Rattle.rules.specs.Tree.{Tree}
use Rattle.rules.specs.Substitution.{Substitution, substitute, Binding, Pair, pick, lookup, instantiate, instantiate_pairs}
use Rattle.rules.specs.Equality.{Ac, reflexive, symmetric, transitive}
use Rattle.rules.specs.declared.Sort.{Sort}
use Rattle.rules.specs.Sorts.{variable_sort, sorted}
use Rattle.rules.specs.Tidy.{Arity, Tidy, TidyPairs}
use Rattle.rules.specs.Meaning.{WellSorted, Unifier, Free}
pub use Rattle.rules.specs.Derivation.{GoodBinding, GoodBindings}
use Rattle.laws.proofs.Basics.Tests.{same_eq, ne_of_differ}
use Rattle.laws.proofs.Solving.Substituting.{FreePairs, substitute_twice, substitute_ac, substitute_free, substitute_stays_free}
use Rattle.laws.proofs.Sorts.Sorting.{below_self, sorted_variable}
use Rattle.laws.proofs.Sorts.Instances.{substitute_tidy}

-- what holds of the value at its key, and of what is looked up at every other variable, holds at every variable
pub at_lookup : (P : Text → Tree → Type 0) (x : Text) (v : Tree) (bs : List Binding) → P x v → ((y : Text) → (x ≡ y → ⊥) → P y (lookup bs y)) → (y : Text)
    → P y (lookup ((x, v) ∷ bs) y)
unfolding lookup
at_lookup P x v bs p q y = go (same x y) refl
  where
    go : (c : Bool) → same x y ≡ c → P y (pick c v (lookup bs y))
    go true e = subst (λ (z : Text). P z v) (same_eq x y e) p
    go false e = q y (ne_of_differ e)

pub good_bindings : (arity : Text → ℕ) (bs : List Binding) → GoodBindings arity bs → WellSorted arity (lookup bs)
unfolding lookup
good_bindings arity [] g x s e n = (sorted_variable s s x e ∙ below_self s, (s, e, n))
good_bindings arity (b ∷ bs) g x s e n = at_lookup (λ y t. variable_sort y ≡ Some s → variable_token y ≡ true → (sorted s t ≡ true) × Tidy arity t)
    b.0 b.1 bs (λ q m. here q) (λ y d q m. good_bindings arity bs g.1 y s q m) x e n
  where
    here : variable_sort b.0 ≡ Some s → (sorted s b.1 ≡ true) × Tidy arity b.1
    here q =
        let p : Some g.0.key_sort ≡ Some s = sym g.0.key_has ∙ q in
        let r : g.0.key_sort ≡ s = cc in
        (subst (λ (z : Sort). sorted z b.1 ≡ true) r g.0.value_has, g.0.tidy)

-- a substitution that agrees with the bindings makes the same of a tree and of its instance
pub agreeing_instance : (σ : Substitution) (bs : List Binding) → ((y : Text) → Ac (σ y) (substitute σ (lookup bs y))) → (t : Tree)
    → Ac (substitute σ t) (substitute σ (instantiate bs t))
agreeing_instance σ bs h t = subst (Ac (substitute σ t)) (sym (substitute_twice σ (lookup bs) t)) (substitute_ac σ (λ y. substitute σ (lookup bs y)) h t)

-- one binding, put into pairs
module _ (x : Text) (v : Tree) where
  abbrev single : List Binding
  single = (x, v) ∷ []

  agrees : (σ : Substitution) → Ac (σ x) (substitute σ v) → (y : Text) → Ac (σ y) (substitute σ (lookup single y))
  unfolding lookup substitute
  agrees σ h = at_lookup (λ y t. Ac (σ y) (substitute σ t)) x v [] h (λ y d. reflexive)

  pub instantiate_unifies : (σ : Substitution) → Ac (σ x) (substitute σ v) → (ps : List Pair) → Unifier σ ps ↔ Unifier σ (instantiate_pairs single ps)
  unfolding instantiate_pairs
  instantiate_unifies σ h [] = (λ u. u, λ u. u)
  instantiate_unifies σ h (p ∷ ps) =
      let l = agreeing_instance σ single (agrees σ h) p.0 in
      let r = agreeing_instance σ single (agrees σ h) p.1 in
      let k = instantiate_unifies σ h ps in
      (λ u. (transitive (symmetric l) (transitive u.0 r), k.0 u.1), λ u. (transitive l (transitive u.0 (symmetric r)), k.1 u.1))

  -- the key is gone, where the value does not hold it
  pub instantiate_gone : Free x v → (ps : List Pair) → FreePairs x (instantiate_pairs single ps)
  unfolding instantiate_pairs lookup
  instantiate_gone d [] = tt
  instantiate_gone d (p ∷ ps) = (substitute_free x (lookup single) away p.0, substitute_free x (lookup single) away p.1, instantiate_gone d ps)
    where
      away : (y : Text) → Free x (lookup single y)
      away = at_lookup (λ y t. Free x t) x v [] d (λ y n e. n (sym e))

  pub instantiate_free : (y : Text) → Free y v → (ps : List Pair) → FreePairs y ps → FreePairs y (instantiate_pairs single ps)
  unfolding instantiate_pairs lookup
  instantiate_free y d [] f = tt
  instantiate_free y d (p ∷ ps) f =
      (substitute_stays_free y (lookup single) away p.0 f.0, substitute_stays_free y (lookup single) away p.1 f.1, instantiate_free y d ps f.2)
    where
      away : (z : Text) → (z ≡ y → ⊥) → Free y (lookup single z)
      away = at_lookup (λ z t. (z ≡ y → ⊥) → Free y t) x v [] (λ n. d) (λ z n m. m)

  pub instantiate_tidy : (arity : Text → ℕ) → Arity arity → GoodBinding arity x v → (ps : List Pair) → TidyPairs arity ps
      → TidyPairs arity (instantiate_pairs single ps)
  unfolding instantiate_pairs
  instantiate_tidy arity counts g [] d = tt
  instantiate_tidy arity counts g (p ∷ ps) d =
      let w = good_bindings arity single (g, tt) in
      let tidy = substitute_tidy arity counts (lookup single) w in
      (tidy p.0 d.0, tidy p.1 d.1, instantiate_tidy arity counts g ps d.2)
