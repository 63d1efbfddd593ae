-- The runs of unify keep trees as reading builds them.
use mathlib.Core.Path.{◌≡◌, refl, sym, subst}
use mathlib.Core.Bool.{Bool, true, false}
use mathlib.Core.List.{List, [], ◌∷◌}
use Rattle.std.specs.Prelude.{Option, Some, None}
use Prim.Native.Nat.{ℕ, zero, suc, ◌≤◌}
use lib.Dec.{leb}
use Rattle.rules.specs.Bytes.{Text, same}
use Rattle.rules.specs.Names.{variable_token}
use Rattle.rules.specs.Tree.{Tree, variable, Trees, size}
use Rattle.rules.specs.Substitution.{Substitution, substitute, substitutes, Binding, Pair, pick, lookup, instantiate, instantiate_pairs}
use Rattle.rules.specs.Solving.{Verdict, solved, failed, unsupported, Answer, Step, goes_on, bind, fails, unknown, step, with_binding, after, run, extended, compose_over, compose, composed, finish, unify}
use Rattle.rules.specs.Tidy.{Built, a_variable, an_atom, a_leaf, a_list, a_sum, Builts, nil, both}
pub use Rattle.rules.specs.Tidy.{BuiltPairs, BuiltBindings}
use Rattle.laws.proofs.Equality.Building.{built_children}
use Rattle.laws.proofs.Equality.Summands.{all_built}
use Rattle.laws.proofs.Solving.Keeping.{Sides, Kept, KeptStep, step_keep}

-- right sides within the limit of reading
abbrev pub SmallPairs : List Pair → Type 0
SmallPairs [] = Unit {0}
SmallPairs (p ∷ ps) = (size p.1 ≤ 4096) × SmallPairs ps

-- Substitution

module _ (σ : Substitution) (h : (x : Text) → variable_token x ≡ true → Built (σ x)) where
  mutual
    unfolding substitute

    pub substitute_built : {t : Tree} → Built t → Built (substitute σ t)
    substitute_built (a_variable {x} v) = h x v
    substitute_built (an_atom l n) = an_atom l n
    substitute_built (a_leaf w) = a_leaf w
    substitute_built (a_list w l q b bs) = a_list w l q (substitute_built b) (substitutes_built bs)
    substitute_built (a_sum a b) = a_sum (substitute_built a) (substitute_built b)

    substitutes_built : {ts : Trees} → Builts ts → Builts (substitutes σ ts)
    substitutes_built nil = nil
    substitutes_built (both b bs) = both (substitute_built b) (substitutes_built bs)

abbrev pub BuiltValues : List Binding → Type 0
BuiltValues [] = Unit {0}
BuiltValues (b ∷ bs) = Built b.1 × BuiltValues bs

pub value_built : (bs : List Binding) → BuiltValues bs → (x : Text) → variable_token x ≡ true → Built (lookup bs x)
unfolding lookup
value_built [] h x v = a_variable v
value_built (b ∷ bs) h x v = go (same b.0 x) (value_built bs h.1 x v)
  where
    go : (c : Bool) → Built (lookup bs x) → Built (pick c b.1 (lookup bs x))
    go true k = h.0
    go false k = k

bindings_values : (bs : List Binding) → BuiltBindings bs → BuiltValues bs
bindings_values [] h = tt
bindings_values (b ∷ bs) h = (h.1, bindings_values bs h.2)

pub lookup_built : (bs : List Binding) → BuiltBindings bs → (x : Text) → variable_token x ≡ true → Built (lookup bs x)
lookup_built bs h = value_built bs (bindings_values bs h)

pub instance_built : (bs : List Binding) → BuiltBindings bs → {t : Tree} → Built t → Built (instantiate bs t)
instance_built bs h = substitute_built (lookup bs) (lookup_built bs h)

pairs_built : (bs : List Binding) → BuiltBindings bs → (ps : List Pair) → BuiltPairs ps → BuiltPairs (instantiate_pairs bs ps)
unfolding instantiate_pairs
pairs_built bs h [] k = tt
pairs_built bs h (p ∷ ps) k = (instance_built bs h k.0, instance_built bs h k.1, pairs_built bs h ps k.2)

-- Such trees are kept

pub built_kept : Kept Built
built_kept = record { parts = λ f ts b. all_built (built_children b); sums = λ a b p q. a_sum p q }

pub built_sides : (ps : List Pair) → BuiltPairs ps → Sides Built Built ps
built_sides [] h = tt
built_sides (p ∷ ps) h = (h.0, h.1, built_sides ps h.2)

pub sides_built : (ps : List Pair) → Sides Built Built ps → BuiltPairs ps
sides_built [] h = tt
sides_built (p ∷ ps) h = (h.0, h.1, sides_built ps h.2)

-- One step

abbrev pub BuiltStep : Step → Type 0
BuiltStep (goes_on ps) = BuiltPairs ps
BuiltStep (bind x v ps) = (variable_token x ≡ true) × Built v × BuiltPairs ps
BuiltStep fails = Unit {0}
BuiltStep unknown = Unit {0}

pub name_token : {x : Text} → Built (variable x) → variable_token x ≡ true
name_token (a_variable v) = v

pub step_built : (l r : Tree) (ps : List Pair) → Built l → Built r → BuiltPairs ps → BuiltStep (step l r ps)
step_built l r ps p q k = go (step l r ps) (step_keep Built built_kept ps (built_sides ps k) l r p q)
  where
    go : (s : Step) → KeptStep Built ps s → BuiltStep s
    go (goes_on qs) m = sides_built qs m.0
    go (bind x v qs) m = let t = name_token m.key in (t, m.value, subst BuiltPairs (sym m.put) (pairs_built ((x, v) ∷ []) (t, m.value, tt) ps k))
    go fails m = tt
    go unknown m = tt

-- The run

abbrev pub BuiltVerdict : Verdict → Type 0
BuiltVerdict (solved bs) = BuiltBindings bs
BuiltVerdict failed = Unit {0}
BuiltVerdict unsupported = Unit {0}

with_built : (x : Text) (v : Tree) (w : Verdict) → variable_token x ≡ true → Built v → BuiltVerdict w → BuiltVerdict (with_binding x v w)
with_built x v (solved bs) t b k = (t, b, k)
with_built x v failed t b k = tt
with_built x v unsupported t b k = tt

after_built : (s : Step) (go : List Pair → Answer) → BuiltStep s → ((qs : List Pair) → BuiltPairs qs → BuiltVerdict (go qs).0) → BuiltVerdict (after s go).0
after_built (goes_on qs) go m h = h qs m
after_built (bind x v qs) go m h = with_built x v (go qs).0 m.0 m.1 (h qs m.2)
after_built fails go m h = tt
after_built unknown go m h = tt

run_built : (k : ℕ) (ps : List Pair) → BuiltPairs ps → BuiltVerdict (run k ps).0
unfolding run
run_built zero ps b = tt
run_built (suc k) [] b = tt
run_built (suc k) (p ∷ ps) b = after_built (step p.0 p.1 ps) (λ qs. run k qs) (step_built p.0 p.1 ps b.0 b.1 b.2) (λ qs c. run_built k qs c)

-- Composition: values within the limit

abbrev pub Within : List Binding → Type 0
Within [] = Unit {0}
Within (b ∷ bs) = (leb (size b.1) 4096 ≡ true) × Within bs

abbrev pub Writable : Verdict → Type 0
Writable (solved bs) = BuiltBindings bs × Within bs
Writable failed = Unit {0}
Writable unsupported = Unit {0}

compose_built : (es : List Binding) → BuiltBindings es → Writable (composed (compose es))
unfolding compose
compose_built [] h = (tt, tt)
compose_built (b ∷ es) h = over (compose es) (compose_built es h.2)
  where
    over : (o : Option (List Binding)) → Writable (composed o) → Writable (composed (compose_over b.0 b.1 o))
    over None m = tt
    over (Some bs) m = fit (leb (size (instantiate bs b.1)) 4096) refl
      where
        fit : (c : Bool) → leb (size (instantiate bs b.1)) 4096 ≡ c → Writable (composed (extended c b.0 (instantiate bs b.1) bs))
        fit true e = ((h.0, instance_built bs m.0 h.1, m.0), (e, m.1))
        fit false e = tt

pub unify_writable : (k : ℕ) (ps : List Pair) → BuiltPairs ps → Writable (unify k ps).0
unfolding unify
unify_writable k ps b = go (run k ps).0 (run_built k ps b)
  where
    go : (v : Verdict) → BuiltVerdict v → Writable (finish v)
    go (solved es) m = compose_built es m
    go failed m = tt
    go unsupported m = tt
