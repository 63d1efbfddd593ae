-- A tree that waits beside itself, last on the stack, during every binding of unify: its instance under the bindings is within the
-- limit of nodes.
use Prim.Native.Nat.{ℕ, zero, suc, ◌≤◌}
use native.Mathlib.Omega.{arith}
use mathlib.Core.Path.{◌≡◌, refl, sym, ◌∙◌, ap, subst}
use mathlib.Core.Bool.{Bool, true, false}
use mathlib.Core.List.{List, [], ◌∷◌, ◌++◌}
use Rattle.std.specs.Prelude.{Option, Some, None}
use Rattle.laws.proofs.Basics.Somes.{some_injective, none_ne_some}
use lib.Dec.{leb}
use Rattle.rules.specs.Bytes.{Text}
use Rattle.rules.specs.Tree.{Tree, Trees, none, more, size}
use Rattle.rules.specs.Substitution.{Binding, Pair, lookup, instantiate, instantiate_pairs, size_pairs}
use Rattle.rules.specs.Solving.{Step, goes_on, bind, fails, unknown, step_at, step, Verdict, solved, failed, unsupported, with_binding, after, run, extended, compose_over, compose, composed, finish, unify}
use Rattle.laws.proofs.Solving.Substituting.{substitute_nothing}
use Rattle.laws.proofs.Solving.Derived.{put_over}
use Rattle.laws.proofs.Solving.Rules.{same_tree_self}
use Rattle.laws.proofs.Solving.Keeping.{AllIn, Sides, Kept, OnTop, all_waited, one_before, KeptStep, step_keep}

-- w beside itself is last
pub data Waits (w : Tree) : List Pair → Type 0 where
  last : Waits w ((w, w) ∷ [])
  under : {p : Pair} {ps : List Pair} → Waits w ps → Waits w (p ∷ ps)

pub waits_after : (w : Tree) (es : List Pair) (p : Pair) → Waits w (es ++ (p ∷ (w, w) ∷ []))
waits_after w [] p = under last
waits_after w (e ∷ es) p = under (waits_after w es p)

waits_top : {w : Tree} {ps qs : List Pair} → Waits w ps → OnTop ps qs → Waits w qs
waits_top h all_waited = h
waits_top h (one_before t) = under (waits_top h t)

waits_put : {w : Tree} {ps : List Pair} (bs : List Binding) → Waits w ps → Waits (instantiate bs w) (instantiate_pairs bs ps)
unfolding instantiate_pairs
waits_put bs last = last
waits_put bs (under h) = under (waits_put bs h)

waits_size : {w : Tree} {ps : List Pair} → Waits w ps → size w ≤ size_pairs ps
unfolding size_pairs
waits_size last = omega arith
waits_size (under h) = let k = waits_size h in omega arith

-- the bindings put in one after the other, as they are made
unfoldable in_turn : List Binding → Tree → Tree
in_turn [] w = w
in_turn (b ∷ bs) w = in_turn bs (instantiate (b ∷ []) w)

abbrev WithinLimit : Tree → Verdict → Type 0
WithinLimit w (solved bs) = size (in_turn bs w) ≤ 4096
WithinLimit w failed = Unit {0}
WithinLimit w unsupported = Unit {0}

abbrev Any : Tree → Type 0
Any t = Unit {0}

every_one : (ts : Trees) → AllIn Any ts
every_one none = tt
every_one (more t ts) = (tt, every_one ts)

any_kept : Kept Any
any_kept = record { parts = λ f ts h. every_one ts; sums = λ a b p q. tt }

any_sides : (ps : List Pair) → Sides Any Any ps
any_sides [] = tt
any_sides (p ∷ ps) = (tt, tt, any_sides ps)

bound_within : (x : Text) (v w : Tree) (r : Verdict) → WithinLimit (instantiate ((x, v) ∷ []) w) r → WithinLimit w (with_binding x v r)
unfolding in_turn
bound_within x v w (solved bs) h = h
bound_within x v w failed h = tt
bound_within x v w unsupported h = tt

dropped : (w : Tree) → step w w [] ≡ goes_on []
unfolding step
dropped w = ap (λ (b : Bool). step_at b w w []) (same_tree_self w)

ended : (k : ℕ) (w : Tree) → size w ≤ 4096 → WithinLimit w (run k []).0
unfolding run in_turn
ended zero w l = tt
ended (suc k) w l = l

run_limit : (k : ℕ) (ps : List Pair) (w : Tree) → Waits w ps → size w ≤ 4096 → WithinLimit w (run k ps).0
unfolding run
run_limit zero ps w h l = tt
run_limit (suc k) [] w h l = elim h [ ]
run_limit (suc k) (p ∷ ps) w last l = subst (λ (s : Step). WithinLimit w (after s (λ qs. run k qs)).0) (sym (dropped w)) (ended k w l)
run_limit (suc k) (p ∷ ps) w (under h) l = go (step p.0 p.1 ps) (step_keep Any any_kept ps (any_sides ps) p.0 p.1 tt tt) (λ qs u i j. run_limit k qs u i j)
  where
    go : (s : Step) → KeptStep Any ps s → ((qs : List Pair) (u : Tree) → Waits u qs → size u ≤ 4096 → WithinLimit u (run k qs).0) → WithinLimit w (after s (λ qs. run k qs)).0
    go (goes_on qs) t ih = ih qs w (waits_top h t.1) l
    go (bind x v qs) t ih =
        let i = subst (Waits (instantiate ((x, v) ∷ []) w)) (sym t.put) (waits_put ((x, v) ∷ []) h) in
        let j = waits_size i in
        let m = t.limit in
        bound_within x v w (run k qs).0 (ih qs (instantiate ((x, v) ∷ []) w) i (omega arith))
    go fails t ih = tt
    go unknown t ih = tt

-- composing gives what the bindings give one after the other
nothing_put : (w : Tree) → instantiate [] w ≡ w
unfolding lookup
nothing_put w = substitute_nothing (lookup []) (λ x. refl) w

compose_turn : (es cs : List Binding) (w : Tree) → compose es ≡ Some cs → instantiate cs w ≡ in_turn es w
unfolding compose in_turn
compose_turn [] cs w h = subst (λ (bs : List Binding). instantiate bs w ≡ w) (some_injective [] cs h) (nothing_put w)
compose_turn (e ∷ es) cs w h = go (compose es) refl h (λ ds k. compose_turn es ds (instantiate (e ∷ []) w) k)
  where
    fit : (ds : List Binding) (c : Bool) → extended c e.0 (instantiate ds e.1) ds ≡ Some cs → instantiate ds (instantiate (e ∷ []) w) ≡ in_turn es (instantiate (e ∷ []) w)
        → instantiate cs w ≡ in_turn es (instantiate (e ∷ []) w)
    fit ds true k i =
        subst (λ (bs : List Binding). instantiate bs w ≡ in_turn es (instantiate (e ∷ []) w)) (some_injective ((e.0, instantiate ds e.1) ∷ ds) cs k)
        (put_over e.0 e.1 ds w ∙ i)
    fit ds false k i = absurd (none_ne_some cs k)

    go : (o : Option (List Binding)) → compose es ≡ o → compose_over e.0 e.1 o ≡ Some cs
        → ((ds : List Binding) → compose es ≡ Some ds → instantiate ds (instantiate (e ∷ []) w) ≡ in_turn es (instantiate (e ∷ []) w))
        → instantiate cs w ≡ in_turn es (instantiate (e ∷ []) w)
    go None f k ih = absurd (none_ne_some cs k)
    go (Some ds) f k ih = fit ds (leb (size (instantiate ds e.1)) 4096) k (ih ds f)

-- what solved says of the run
abbrev solution : Verdict → Option (List Binding)
solution (solved bs) = Some bs
solution failed = None
solution unsupported = None

composed_solved : (o : Option (List Binding)) (bs : List Binding) → composed o ≡ solved bs → o ≡ Some bs
composed_solved None bs h = ap solution h
composed_solved (Some cs) bs h = ap solution h

finish_solved : (v : Verdict) (bs : List Binding) → finish v ≡ solved bs → (es : List Binding) × (v ≡ solved es) × (compose es ≡ Some bs)
finish_solved (solved es) bs h = (es, refl, composed_solved (compose es) bs h)
finish_solved failed bs h = absurd (none_ne_some bs (ap solution h))
finish_solved unsupported bs h = absurd (none_ne_some bs (ap solution h))

pub unify_limit : (k : ℕ) (ps : List Pair) (w : Tree) → Waits w ps → size w ≤ 4096 → (bs : List Binding) → (unify k ps).0 ≡ solved bs → size (instantiate bs w) ≤ 4096
unfolding unify
unify_limit k ps w h l bs e =
    let (es, f, g) = finish_solved (run k ps).0 bs e in
    let i = subst (WithinLimit w) f (run_limit k ps w h l) in
    let j = ap size (compose_turn es bs w g) in
    omega arith
