-- Every run of unify and of match has a derivation, and a derivation gives what the run gives, on trees as reading builds them.
use mathlib.Core.Path.{◌≡◌, refl, ap, ap₂, sym, subst, ◌∙◌, fun_ext}
use mathlib.Core.Bool.{Bool, true, false}
use mathlib.Core.List.{List, [], ◌∷◌}
use mathlib.Core.Logic.{◌↔◌}
use Rattle.std.specs.Prelude.{Option, Some, None}
use Prim.Native.Nat.{ℕ, zero, suc, ◌+◌, ◌<◌}
use native.Mathlib.Omega.{arith}
use lib.Dec.{leb}
use Rattle.rules.specs.Bytes.{Text, same}
use Rattle.rules.specs.Tree.{Tree, variable, size}
use Rattle.rules.specs.Substitution.{Substitution, substitute, Binding, Pair, pick, lookup, instantiate}
use Rattle.rules.specs.Solving.{Step, goes_on, bind, fails, unknown, step, Verdict, solved, failed, unsupported, Answer, with_binding, after, run, extended, compose_over, compose, composed, finish, unify}
use Rattle.rules.specs.Matching.{Move, onward, clash, beyond, move, moved, matching, matcher}
use Rattle.rules.specs.Tidy.{BuiltPairs, BuiltBindings}
use Rattle.rules.specs.Inference.{Infers}
use Rattle.rules.specs.Derivation.{Matches, Ending, emptied, pair_fails, pair_unknown, fuel_used_up, Derives, MatchDerives, put_in, Composes, nil, next, Outgrows, here, later, UnifyDerives, MatcherDerives}
use Rattle.laws.proofs.Basics.Tests.{leb_true, leb_false, true_leb, false_leb}
use Rattle.laws.proofs.Sheets.BuiltRun.{BuiltStep, step_built}
use Rattle.laws.proofs.Solving.Substituting.{substitute_twice, substitute_nothing}
use Rattle.laws.proofs.Solving.Rules.{step_infers}
use Rattle.laws.proofs.Solving.OnlyRules.{infers_only}
use Rattle.laws.proofs.Solving.MatchRules.{move_matches, matches_only, BuiltMove, move_built}

-- how a run ends, its bindings, and the number of pairs taken
abbrev Trace : Type 0
Trace = Ending × List Binding × ℕ

one_more : Trace → Trace
one_more a = (a.0, a.1, suc a.2)

bound_more : Binding → Trace → Trace
bound_more b a = (a.0, b ∷ a.1, suc a.2)

-- the verdict of a run
abbrev verdict_of : Ending → List Binding → Verdict
verdict_of emptied bs = solved bs
verdict_of pair_fails bs = failed
verdict_of pair_unknown bs = unsupported
verdict_of fuel_used_up bs = unsupported

told : Trace → Answer
told a = (verdict_of a.0 a.1, a.2)

one_taken : (a : Answer) (t : Trace) → a ≡ told t → (a.0, 1 + a.1) ≡ told (one_more t)
unfolding told one_more
one_taken a t e = ap₂ (λ (v : Verdict) (n : ℕ). (v, n)) (ap (λ (z : Answer). z.0) e) (let i = ap (λ (z : Answer). z.1) e in omega arith)

one_trace : {a b : Trace} → a ≡ b → (a.0 ≡ b.0) × (a.1 ≡ b.1) × (a.2 ≡ b.2)
one_trace e = (ap (λ (z : Trace). z.0) e, ap (λ (z : Trace). z.1) e, ap (λ (z : Trace). z.2) e)

-- unify

traced_after : Step → (List Pair → Trace) → Trace
traced_after (goes_on qs) go = one_more (go qs)
traced_after (bind x v qs) go = bound_more (x, v) (go qs)
traced_after fails go = (pair_fails, [], 1)
traced_after unknown go = (pair_unknown, [], 1)

trace : ℕ → List Pair → Trace
unfolding traced_after
trace zero ps = (fuel_used_up, [], 0)
trace (suc k) [] = (emptied, [], 0)
trace (suc k) (p ∷ ps) = traced_after (step p.0 p.1 ps) (λ qs. trace k qs)

abbrev Traced : ℕ → List Pair → Trace → Type 0
Traced k ps a = Derives k ps a.0 a.1 a.2

traced : (k : ℕ) (ps : List Pair) → BuiltPairs ps → Traced k ps (trace k ps)
unfolding trace traced_after one_more bound_more
traced zero ps b = Derives.no_fuel
traced (suc k) [] b = Derives.no_pairs
traced (suc k) (p ∷ ps) b =
    go (step p.0 p.1 ps) (step_infers ps b.0 b.1) (step_built p.0 p.1 ps b.0 b.1 b.2) (λ qs c. traced k qs c)
  where
    go : (s : Step) → Infers p.0 p.1 ps s → BuiltStep s → ((qs : List Pair) → BuiltPairs qs → Traced k qs (trace k qs))
        → Traced (suc k) (p ∷ ps) (traced_after s (λ qs. trace k qs))
    go (goes_on qs) i c r = Derives.going_on i (r qs c)
    go (bind x v qs) i c r = Derives.binding i (r qs c.2)
    go fails i c r = Derives.failing i
    go unknown i c r = Derives.unsettled i

-- the step that a rule gives, and what it leaves
module _ (k : ℕ) {l r : Tree} {ps : List Pair} {s : Step} (b : BuiltPairs ((l, r) ∷ ps)) (i : Infers l r ps s) where
  rule_traced : trace (suc k) ((l, r) ∷ ps) ≡ traced_after s (λ qs. trace k qs)
  unfolding trace
  rule_traced = ap (λ (z : Step). traced_after z (λ qs. trace k qs)) (sym (infers_only b.0 b.1 i))

  rule_built : BuiltStep s
  rule_built = subst BuiltStep (sym (infers_only b.0 b.1 i)) (step_built l r ps b.0 b.1 b.2)

traced_only : {k n : ℕ} {ps : List Pair} {e : Ending} {bs : List Binding} → BuiltPairs ps → Derives k ps e bs n → trace k ps ≡ (e, bs, n)
unfolding trace traced_after one_more bound_more
traced_only b Derives.no_fuel = refl
traced_only b Derives.no_pairs = refl
traced_only b (Derives.failing {fuel = k} i) = rule_traced k b i
traced_only b (Derives.unsettled {fuel = k} i) = rule_traced k b i
traced_only b (Derives.going_on {fuel = k} i d) = rule_traced k b i ∙ ap one_more (traced_only (rule_built k b i) d)
traced_only b (Derives.binding {fuel = k} {v = v} {x = x} i d) = rule_traced k b i ∙ ap (bound_more (x, v)) (traced_only (rule_built k b i).2 d)

with_told : (x : Text) (v : Tree) (e : Ending) (bs : List Binding) → with_binding x v (verdict_of e bs) ≡ verdict_of e ((x, v) ∷ bs)
with_told x v emptied bs = refl
with_told x v pair_fails bs = refl
with_told x v pair_unknown bs = refl
with_told x v fuel_used_up bs = refl

run_told : (k : ℕ) (ps : List Pair) → run k ps ≡ told (trace k ps)
unfolding run trace traced_after told bound_more
run_told zero ps = refl
run_told (suc k) [] = refl
run_told (suc k) (p ∷ ps) = go (step p.0 p.1 ps) (λ qs. run_told k qs)
  where
    bound_told : (x : Text) (v : Tree) (a : Answer) (t : Trace) → a ≡ told t → (with_binding x v a.0, 1 + a.1) ≡ told (bound_more (x, v) t)
    bound_told x v a t e =
        let i = ap (λ (z : Answer). z.1) e in
        let j : 1 + a.1 ≡ suc t.2 = omega arith in
        ap₂ (λ (w : Verdict) (n : ℕ). (w, n)) (ap (λ (z : Answer). with_binding x v z.0) e ∙ with_told x v t.0 t.1) j

    go : (s : Step) → ((qs : List Pair) → run k qs ≡ told (trace k qs)) → after s (λ qs. run k qs) ≡ told (traced_after s (λ qs. trace k qs))
    go (goes_on qs) r = one_taken (run k qs) (trace k qs) (r qs)
    go (bind x v qs) r = bound_told x v (run k qs) (trace k qs) (r qs)
    go fails r = refl
    go unknown r = refl

-- a derivation of unify is the only one: it ends so, with these bindings and this count
pub derives_once : {k n m : ℕ} {ps : List Pair} {e f : Ending} {bs cs : List Binding} → BuiltPairs ps → Derives k ps e bs n → Derives k ps f cs m
    → (e ≡ f) × (bs ≡ cs) × (n ≡ m)
derives_once b d c = one_trace (sym (traced_only b d) ∙ traced_only b c)

-- Composition

-- a binding, and then others, put in at once
pub put_over : (x : Text) (u : Tree) (ds : List Binding) (v : Tree) → instantiate ((x, instantiate ds u) ∷ ds) v ≡ instantiate ds (instantiate ((x, u) ∷ []) v)
unfolding lookup substitute
put_over x u ds v = sym (substitute_twice (lookup ds) (lookup ((x, u) ∷ [])) v ∙ ap (λ (σ : Substitution). substitute σ v) (fun_ext (λ y. at y (same x y))))
  where
    at : (y : Text) (b : Bool) → substitute (lookup ds) (pick b u (variable y)) ≡ pick b (substitute (lookup ds) u) (lookup ds y)
    at y true = refl
    at y false = refl

-- what composing gives
abbrev Composed : List Binding → Option (List Binding) → Type 0
Composed bs None = Outgrows bs
Composed bs (Some cs) = Composes bs cs

composes_put : {bs cs : List Binding} → Composes bs cs → (v : Tree) → instantiate cs v ≡ put_in bs v
unfolding put_in lookup
composes_put nil v = substitute_nothing (lookup []) (λ x. refl) v
composes_put (next {x = x} {v = u} {bs = bs} {cs = cs} e h c) v =
    ap (λ (z : Tree). instantiate ((x, z) ∷ cs) v) (sym (composes_put c u ∙ e)) ∙ put_over x u cs v ∙ composes_put c (instantiate ((x, u) ∷ []) v)

composing : (bs : List Binding) → Composed bs (compose bs)
unfolding compose
composing [] = nil
composing (b ∷ bs) = over (compose bs) (composing bs)
  where
    over : (o : Option (List Binding)) → Composed bs o → Composed (b ∷ bs) (compose_over b.0 b.1 o)
    over None m = later m
    over (Some cs) m = fit (leb (size (instantiate cs b.1)) 4096) refl
      where
        fit : (c : Bool) → leb (size (instantiate cs b.1)) 4096 ≡ c → Composed (b ∷ bs) (extended c b.0 (instantiate cs b.1) cs)
        fit true e = next (sym (composes_put m b.1)) (leb_true _ _ e) m
        fit false e = here (subst (λ (t : Tree). 4096 < size t) (composes_put m b.1) (leb_false _ _ e))

composes_only : {bs cs : List Binding} → Composes bs cs → compose bs ≡ Some cs
unfolding compose
composes_only nil = refl
composes_only (next {x = x} {v = v} {w = w} {bs = bs} {cs = cs} e h c) =
    ap (compose_over x v) (composes_only c) ∙ ap (λ (t : Tree). extended (leb (size t) 4096) x t cs) (composes_put c v ∙ e)
    ∙ ap (λ (b : Bool). extended b x w cs) (true_leb (size w) 4096 h)

outgrows_only : {bs : List Binding} → Outgrows bs → compose bs ≡ None
unfolding compose
outgrows_only (later {b = b} o) = ap (compose_over b.0 b.1) (outgrows_only o)
outgrows_only (here {x = x} {v = v} {bs = bs} h) = go (compose bs) (composing bs)
  where
    go : (o : Option (List Binding)) → Composed bs o → compose_over x v o ≡ None
    go None m = refl
    go (Some cs) m =
        ap (λ (t : Tree). extended (leb (size t) 4096) x t cs) (composes_put m v) ∙ ap (λ (b : Bool). extended b x (put_in bs v) cs) (false_leb (size (put_in bs v)) 4096 h)

pub compose_composes : (bs cs : List Binding) → (compose bs ≡ Some cs) ↔ Composes bs cs
compose_composes bs cs = (λ e. subst (Composed bs) e (composing bs), composes_only)

pub compose_outgrows : (bs : List Binding) → (compose bs ≡ None) ↔ Outgrows bs
compose_outgrows bs = (λ e. subst (Composed bs) e (composing bs), outgrows_only)

-- The answer of unify

module _ (fuel : ℕ) (ps : List Pair) (b : BuiltPairs ps) where
  -- a derivation, when its bindings are composed, gives the answer
  finished_as : {n : ℕ} {e : Ending} {bs : List Binding} → Derives fuel ps e bs n → unify fuel ps ≡ (finish (verdict_of e bs), n)
  unfolding unify told
  finished_as d = ap (λ (a : Answer). (finish a.0, a.1)) (run_told fuel ps ∙ ap told (traced_only b d))

  concluded : (e : Ending) (bs : List Binding) (n : ℕ) → Derives fuel ps e bs n → UnifyDerives fuel ps (finish (verdict_of e bs)) n
  concluded emptied bs n d = go (compose bs) (composing bs)
    where
      go : (o : Option (List Binding)) → Composed bs o → UnifyDerives fuel ps (composed o) n
      go None m = UnifyDerives.outgrown d m
      go (Some cs) m = UnifyDerives.composed d m
  concluded pair_fails bs n d = UnifyDerives.by_failing d
  concluded pair_unknown bs n d = UnifyDerives.by_unknown d
  concluded fuel_used_up bs n d = UnifyDerives.by_fuel d

  derived : UnifyDerives fuel ps (unify fuel ps).0 (unify fuel ps).1
  derived =
      subst (λ (a : Answer). UnifyDerives fuel ps a.0 a.1) (sym (finished_as (traced fuel ps b)))
      (concluded (trace fuel ps).0 (trace fuel ps).1 (trace fuel ps).2 (traced fuel ps b))

  derived_only : {v : Verdict} {n : ℕ} → UnifyDerives fuel ps v n → unify fuel ps ≡ (v, n)
  derived_only {n = n} (UnifyDerives.composed d c) = finished_as d ∙ ap (λ (o : Option (List Binding)). (composed o, n)) (composes_only c)
  derived_only {n = n} (UnifyDerives.outgrown d c) = finished_as d ∙ ap (λ (o : Option (List Binding)). (composed o, n)) (outgrows_only c)
  derived_only (UnifyDerives.by_failing d) = finished_as d
  derived_only (UnifyDerives.by_unknown d) = finished_as d
  derived_only (UnifyDerives.by_fuel d) = finished_as d

  pub unify_derives : (v : Verdict) (n : ℕ) → (unify fuel ps ≡ (v, n)) ↔ UnifyDerives fuel ps v n
  unify_derives v n = (λ e. subst (λ (a : Answer). UnifyDerives fuel ps a.0 a.1) e derived, derived_only)

-- match

moved_trace : Move → List Binding → (List Pair → List Binding → Trace) → Trace
moved_trace (onward qs cs) bs go = one_more (go qs cs)
moved_trace clash bs go = (pair_fails, bs, 1)
moved_trace beyond bs go = (pair_unknown, bs, 1)

match_trace : ℕ → List Pair → List Binding → Trace
unfolding moved_trace
match_trace zero ps bs = (fuel_used_up, bs, 0)
match_trace (suc k) [] bs = (emptied, bs, 0)
match_trace (suc k) (p ∷ ps) bs = moved_trace (move p.0 p.1 ps bs) bs (λ qs cs. match_trace k qs cs)

abbrev MatchTraced : ℕ → List Pair → List Binding → Trace → Type 0
MatchTraced k ps bs a = MatchDerives k ps bs a.0 a.1 a.2

match_traced : (k : ℕ) (ps : List Pair) (bs : List Binding) → BuiltPairs ps → BuiltBindings bs → MatchTraced k ps bs (match_trace k ps bs)
unfolding match_trace moved_trace one_more
match_traced zero ps bs b h = MatchDerives.no_fuel
match_traced (suc k) [] bs b h = MatchDerives.no_pairs
match_traced (suc k) (p ∷ ps) bs b h =
    go (move p.0 p.1 ps bs) (move_matches p.0 p.1 ps bs b.0 b.1 h) (move_built p.0 p.1 ps bs b.0 b.1 b.2 h)
    (λ qs cs c d. match_traced k qs cs c d)
  where
    go : (s : Move) → Matches p.0 p.1 ps bs s → BuiltMove s
        → ((qs : List Pair) (cs : List Binding) → BuiltPairs qs → BuiltBindings cs → MatchTraced k qs cs (match_trace k qs cs))
        → MatchTraced (suc k) (p ∷ ps) bs (moved_trace s bs (λ qs cs. match_trace k qs cs))
    go (onward qs cs) i c r = MatchDerives.going_on i (r qs cs c.0 c.1)
    go clash i c r = MatchDerives.failing i
    go beyond i c r = MatchDerives.unsettled i

module _ (k : ℕ) {t u : Tree} {ps : List Pair} {bs : List Binding} {s : Move} (b : BuiltPairs ((t, u) ∷ ps)) (h : BuiltBindings bs) (i : Matches t u ps bs s) where
  rule_moved : match_trace (suc k) ((t, u) ∷ ps) bs ≡ moved_trace s bs (λ qs cs. match_trace k qs cs)
  unfolding match_trace
  rule_moved = ap (λ (z : Move). moved_trace z bs (λ qs cs. match_trace k qs cs)) (matches_only b.0 b.1 h i)

  rule_move_built : BuiltMove s
  rule_move_built = subst BuiltMove (matches_only b.0 b.1 h i) (move_built t u ps bs b.0 b.1 b.2 h)

match_traced_only : {k n : ℕ} {ps : List Pair} {e : Ending} {bs cs : List Binding} → BuiltPairs ps → BuiltBindings bs → MatchDerives k ps bs e cs n
    → match_trace k ps bs ≡ (e, cs, n)
unfolding match_trace moved_trace one_more
match_traced_only b h MatchDerives.no_fuel = refl
match_traced_only b h MatchDerives.no_pairs = refl
match_traced_only b h (MatchDerives.failing {fuel = k} i) = rule_moved k b h i
match_traced_only b h (MatchDerives.unsettled {fuel = k} i) = rule_moved k b h i
match_traced_only b h (MatchDerives.going_on {fuel = k} i d) =
    rule_moved k b h i ∙ ap one_more (match_traced_only (rule_move_built k b h i).0 (rule_move_built k b h i).1 d)

matching_told : (k : ℕ) (ps : List Pair) (bs : List Binding) → matching k ps bs ≡ told (match_trace k ps bs)
unfolding matching match_trace moved_trace told
matching_told zero ps bs = refl
matching_told (suc k) [] bs = refl
matching_told (suc k) (p ∷ ps) bs = go (move p.0 p.1 ps bs) (λ qs cs. matching_told k qs cs)
  where
    go : (s : Move) → ((qs : List Pair) (cs : List Binding) → matching k qs cs ≡ told (match_trace k qs cs))
        → moved s (λ qs cs. matching k qs cs) ≡ told (moved_trace s bs (λ qs cs. match_trace k qs cs))
    go (onward qs cs) r = one_taken (matching k qs cs) (match_trace k qs cs) (r qs cs)
    go clash r = refl
    go beyond r = refl

pub match_derives_once : {k n m : ℕ} {ps : List Pair} {e f : Ending} {bs cs ds : List Binding} → BuiltPairs ps → BuiltBindings bs
    → MatchDerives k ps bs e cs n → MatchDerives k ps bs f ds m → (e ≡ f) × (cs ≡ ds) × (n ≡ m)
match_derives_once b h d c = one_trace (sym (match_traced_only b h d) ∙ match_traced_only b h c)

-- The answer of match

module _ (fuel : ℕ) (ps : List Pair) (b : BuiltPairs ps) where
  -- a derivation gives the answer
  matched_as : {n : ℕ} {e : Ending} {bs : List Binding} → MatchDerives fuel ps [] e bs n → matcher fuel ps ≡ (verdict_of e bs, n)
  unfolding matcher told
  matched_as d = matching_told fuel ps [] ∙ ap told (match_traced_only b tt d)

  match_concluded : (e : Ending) (bs : List Binding) (n : ℕ) → MatchDerives fuel ps [] e bs n → MatcherDerives fuel ps (verdict_of e bs) n
  match_concluded emptied bs n d = MatcherDerives.as_bound d
  match_concluded pair_fails bs n d = MatcherDerives.by_failing d
  match_concluded pair_unknown bs n d = MatcherDerives.by_unknown d
  match_concluded fuel_used_up bs n d = MatcherDerives.by_fuel d

  match_derived : MatcherDerives fuel ps (matcher fuel ps).0 (matcher fuel ps).1
  match_derived =
      subst (λ (a : Answer). MatcherDerives fuel ps a.0 a.1) (sym (matched_as (match_traced fuel ps [] b tt)))
      (match_concluded (match_trace fuel ps []).0 (match_trace fuel ps []).1 (match_trace fuel ps []).2 (match_traced fuel ps [] b tt))

  match_derived_only : {v : Verdict} {n : ℕ} → MatcherDerives fuel ps v n → matcher fuel ps ≡ (v, n)
  match_derived_only (MatcherDerives.as_bound d) = matched_as d
  match_derived_only (MatcherDerives.by_failing d) = matched_as d
  match_derived_only (MatcherDerives.by_unknown d) = matched_as d
  match_derived_only (MatcherDerives.by_fuel d) = matched_as d

  pub matcher_derives : (v : Verdict) (n : ℕ) → (matcher fuel ps ≡ (v, n)) ↔ MatcherDerives fuel ps v n
  matcher_derives v n = (λ e. subst (λ (a : Answer). MatcherDerives fuel ps a.0 a.1) e match_derived, match_derived_only)
