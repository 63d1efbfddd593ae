-- Composing triangular bindings gives a most general unifier, no key of which is in a value.
use mathlib.Core.Path.{◌≡◌, refl, ap, sym, subst}
use mathlib.Core.Bool.{Bool, true, false}
use mathlib.Core.List.{List, [], ◌∷◌}
use mathlib.Core.Logic.{◌⊎◌, inl, inr}
use Rattle.std.specs.Prelude.{Option, Some, None}
use Prim.Native.Nat.{ℕ}
use lib.Dec.{leb}
use Rattle.rules.specs.Bytes.{Text, same}
use Rattle.rules.specs.Tree.{Tree, size}
use Rattle.rules.specs.Substitution.{Substitution, substitute, Binding, Pair, pick, lookup, instantiate}
use Rattle.rules.specs.Equality.{Ac, reflexive, transitive}
use Rattle.rules.specs.Solving.{Verdict, solved, failed, unsupported, extended, compose_over, compose, composed, finish, run, unify}
use Rattle.rules.specs.Tidy.{Arity, TidyPairs}
use Rattle.rules.specs.Meaning.{Free, NoKey, Distinct, FreeValues, Apart, UnifyMeans}
use Rattle.laws.proofs.Basics.Tests.{same_eq, same_self, ne_of_differ, differ_of_ne}
use Rattle.laws.proofs.Solving.Substituting.{substitute_off, substitute_free, substitute_stays_free}
use Rattle.laws.proofs.Sorts.Instances.{substitute_tidy, substitute_sorted}
use Rattle.laws.proofs.Solving.Binding.{GoodBinding, GoodBindings, good_bindings, at_lookup, agreeing_instance}
use Rattle.laws.proofs.Solving.Running.{FreeBindings, Triangular, Satisfies, Runs, RunMeans, run_means}

-- what is looked up

lookup_free : (y : Text) (bs : List Binding) → FreeValues y bs → (z : Text) → (z ≡ y → ⊥) → Free y (lookup bs z)
unfolding lookup
lookup_free y [] f z n = n
lookup_free y (b ∷ bs) f z n = at_lookup (λ w t. (w ≡ y → ⊥) → Free y t) b.0 b.1 bs (λ m. f.0) (λ w d m. lookup_free y bs f.1 w m) z n

pub lookup_here : (x : Text) (v : Tree) (bs : List Binding) → lookup ((x, v) ∷ bs) x ≡ v
unfolding lookup
lookup_here x v bs = ap (λ (c : Bool). pick c v (lookup bs x)) (same_self x)

pub lookup_past : (x : Text) (v : Tree) (bs : List Binding) (y : Text) → (y ≡ x → ⊥) → lookup ((x, v) ∷ bs) y ≡ lookup bs y
unfolding lookup
lookup_past x v bs y n = ap (λ (c : Bool). pick c v (lookup bs y)) (differ_of_ne (λ e. n (sym e)))

abbrev IsKey : Text → List Binding → Type 0
IsKey y [] = ⊥
IsKey y (b ∷ bs) = (b.0 ≡ y) ⊎ IsKey y bs

key_value : (y : Text) (bs : List Binding) → IsKey y bs → FreeValues y bs → Free y (lookup bs y)
unfolding lookup
key_value y [] k f = absurd k
key_value y (b ∷ bs) k f = go (same b.0 y) refl (λ j. key_value y bs j f.1) k
  where
    go : (c : Bool) → same b.0 y ≡ c → (IsKey y bs → Free y (lookup bs y)) → (b.0 ≡ y) ⊎ IsKey y bs → Free y (pick c b.1 (lookup bs y))
    go true e h j = f.0
    go false e h (inl j) = absurd (ne_of_differ e j)
    go false e h (inr j) = h j

-- a key in no value is in nothing that is looked up
key_free : (y : Text) (bs : List Binding) → IsKey y bs → FreeValues y bs → (z : Text) → Free y (lookup bs z)
key_free y bs k f z = go (same z y) refl
  where
    go : (c : Bool) → same z y ≡ c → Free y (lookup bs z)
    go true e = subst (λ (w : Text). Free y (lookup bs w)) (sym (same_eq z y e)) (key_value y bs k f)
    go false e = lookup_free y bs f z (ne_of_differ e)

apart_over : (x : Text) (v : Tree) (ks bs : List Binding) → ((y : Text) → IsKey y ks → IsKey y bs) → Apart ks bs → Apart ks ((x, instantiate bs v) ∷ bs)
apart_over x v [] bs k a = tt
apart_over x v (b ∷ ks) bs k a =
    ((substitute_free b.0 (lookup bs) (key_free b.0 bs (k b.0 (inl refl)) a.0) v, a.0), apart_over x v ks bs (λ y j. k y (inr j)) a.1)

-- substitutions that agree but at a variable that is nowhere in the bindings satisfy the same bindings
satisfies_off : (x : Text) (σ τ : Substitution) → ((y : Text) → (y ≡ x → ⊥) → σ y ≡ τ y) → (es : List Binding) → FreeBindings x es → Satisfies τ es
    → Satisfies σ es
satisfies_off x σ τ h [] f s = tt
satisfies_off x σ τ h (b ∷ es) f s = (
  subst (λ (t : Tree). Ac t (substitute σ b.1)) (sym (h b.0 f.0)) (subst (Ac (τ b.0)) (sym (substitute_off x σ τ h b.1 f.1)) s.0),
  satisfies_off x σ τ h es f.2 s.1,
)

module _ (arity : Text → ℕ) (counts : Arity arity) where
  -- what composition makes of the run's bindings
  record Composed (es bs : List Binding) : Type 0 where
    good : GoodBindings arity bs
    distinct : Distinct bs
    apart : Apart bs bs
    free : (y : Text) → FreeBindings y es → NoKey y bs × FreeValues y bs
    satisfies : Satisfies (lookup bs) es
    general : (σ : Substitution) → Satisfies σ es → (x : Text) → Ac (σ x) (substitute σ (lookup bs x))

  abbrev ComposeMeans : List Binding → Option (List Binding) → Type 0
  ComposeMeans es None = Unit {0}
  ComposeMeans es (Some bs) = Composed es bs

  extend : (x : Text) (v : Tree) (es bs : List Binding) → GoodBinding arity x v → Free x v → FreeBindings x es → Composed es bs
      → Composed ((x, v) ∷ es) ((x, instantiate bs v) ∷ bs)
  extend x v es bs g f fe c =
      let w = good_bindings arity bs c.good in
      let fx = c.free x fe in
      let gone = substitute_stays_free x (lookup bs) (lookup_free x bs fx.1) v f in
      let σ = lookup ((x, instantiate bs v) ∷ bs) in
      let past = lookup_past x (instantiate bs v) bs in
      record {
        good = (
          record {
            key_sort = g.key_sort;
            key_has = g.key_has;
            value_has = substitute_sorted arity counts (lookup bs) w g.key_sort v g.tidy g.value_has;
            tidy = substitute_tidy arity counts (lookup bs) w v g.tidy;
          },
          c.good,
        );
        distinct = (fx.0, c.distinct);
        apart = ((gone, fx.1), apart_over x v bs bs (λ y k. k) c.apart);
        free = λ y h. let k = c.free y h.2 in ((h.0, k.0), (substitute_stays_free y (lookup bs) (lookup_free y bs k.1) v h.1, k.1));
        satisfies = (
          subst (λ (t : Tree). Ac t (substitute σ v)) (sym (lookup_here x (instantiate bs v) bs)) (subst (Ac (instantiate bs v)) (sym (substitute_off x σ (lookup bs) past v f)) reflexive),
          satisfies_off x σ (lookup bs) past es fe c.satisfies,
        );
        general = λ τ s. at_lookup (λ y t. Ac (τ y) (substitute τ t)) x (instantiate bs v) bs
            (transitive s.0 (agreeing_instance τ bs (c.general τ s.1) v)) (λ y n. c.general τ s.1 y);
      }

  over_means : (x : Text) (v : Tree) (es : List Binding) (o : Option (List Binding)) → GoodBinding arity x v → Free x v → FreeBindings x es → ComposeMeans es o
      → ComposeMeans ((x, v) ∷ es) (compose_over x v o)
  over_means x v es None g f fe c = tt
  over_means x v es (Some bs) g f fe c = go (leb (size (instantiate bs v)) 4096)
    where
      go : (b : Bool) → ComposeMeans ((x, v) ∷ es) (extended b x (instantiate bs v) bs)
      go true = extend x v es bs g f fe c
      go false = tt

  compose_means : (es : List Binding) → Triangular arity es → ComposeMeans es (compose es)
  unfolding compose lookup substitute
  compose_means [] t = record { good = tt; distinct = tt; apart = tt; free = λ y h. (tt, tt); satisfies = tt; general = λ σ s x. reflexive }
  compose_means (b ∷ es) t = over_means b.0 b.1 es (compose es) t.0 t.1 t.2 (compose_means es t.3)

  composed_means : (ps : List Pair) (es : List Binding) (o : Option (List Binding)) → Runs arity ps es → ComposeMeans es o → UnifyMeans arity ps (composed o)
  composed_means ps es None m c = tt
  composed_means ps es (Some bs) m c =
      let w = good_bindings arity bs c.good in
      record {
        well_sorted = w;
        unifier = (m.unifiers (lookup bs) w).1 c.satisfies;
        general = λ σ g u. c.general σ ((m.unifiers σ g).0 u);
        distinct = c.distinct;
        apart = c.apart;
      }

  finish_means : (ps : List Pair) (v : Verdict) → RunMeans arity ps v → UnifyMeans arity ps (finish v)
  finish_means ps (solved es) m = composed_means ps es (compose es) m (compose_means es m.triangular)
  finish_means ps failed m = m
  finish_means ps unsupported m = tt

  pub unify_means : (fuel : ℕ) (ps : List Pair) → TidyPairs arity ps → UnifyMeans arity ps (unify fuel ps).0
  unfolding unify
  unify_means fuel ps d = finish_means ps (run fuel ps).0 (run_means arity counts fuel ps d)
