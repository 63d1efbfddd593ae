-- What fuel and the count of pairs taken mean, for unify and for match.
use mathlib.Core.Path.{◌≡◌, refl, ap, ◌∙◌}
use mathlib.Core.List.{List, [], ◌∷◌}
use Rattle.std.specs.Prelude.{Option, Some, None}
use Prim.Native.Nat.{ℕ, zero, suc, ◌+◌, ◌≤◌, ◌<◌}
use native.Mathlib.Omega.{arith}
use Rattle.rules.specs.Bytes.{Text}
use Rattle.rules.specs.Tree.{Tree}
use Rattle.rules.specs.Substitution.{Binding, Pair}
use Rattle.rules.specs.Solving.{Verdict, solved, failed, unsupported, Answer, Step, goes_on, bind, fails, unknown, with_binding, after, compose, composed, finish, step, run, unify}
use Rattle.rules.specs.Matching.{Move, onward, clash, beyond, moved, move, matching, matcher}
use Rattle.rules.specs.Meaning.{Decided, needed, FuelMeans}

-- no fuel, an empty stack, a pair that ends the run

no_fuel : (m : ℕ) (b : Answer) → FuelMeans 0 m (unsupported, 0) b
no_fuel m b = record { within = λ d. absurd d; enough = λ d. absurd d; less = λ h. absurd (omega arith) }

emptied : (k m : ℕ) (bs : List Binding) → FuelMeans (suc k) (suc m) (solved bs, 0) (solved bs, 0)
emptied k m bs = record { within = λ d. omega arith; enough = λ d h. refl; less = λ h. absurd (omega arith) }

ended : (k m : ℕ) (v : Verdict) → needed v 1 ≡ 1 → FuelMeans (suc k) (suc m) (v, 1) (v, 1)
ended k m v e = record { within = λ d. omega arith; enough = λ d h. refl; less = λ h. absurd (omega arith) }

-- an answer that needs fuel, where there is none
starved : (k : ℕ) (a : Answer) → (Decided a.0 → needed a.0 a.1 ≤ suc k) → 0 < needed a.0 a.1 → FuelMeans (suc k) 0 a (unsupported, 0)
starved k a w p = record { within = w; enough = λ d h. absurd (omega arith); less = λ h. refl }

-- one pair more is taken, and the bindings at most are changed by f

record Harmless (f : Verdict → Verdict) : Type 0 where
  undecided : f unsupported ≡ unsupported
  decides : (v : Verdict) → Decided (f v) → Decided v
  needs : (v : Verdict) (n : ℕ) → needed (f v) n ≡ needed v n

abbrev taken : (Verdict → Verdict) → Answer → Answer
taken f a = (f a.0, 1 + a.1)

taken_needs : (v : Verdict) (n : ℕ) → needed v (1 + n) ≡ 1 + needed v n
taken_needs (solved bs) n = omega arith
taken_needs failed n = refl
taken_needs unsupported n = refl

module _ (f : Verdict → Verdict) (q : Harmless f) (k : ℕ) where
  more_needs : (a : Answer) → needed (f a.0) (1 + a.1) ≡ 1 + needed a.0 a.1
  more_needs a = q.needs a.0 (1 + a.1) ∙ taken_needs a.0 a.1

  taken_fuelled : (m : ℕ) (a b : Answer) → FuelMeans k m a b → FuelMeans (suc k) (suc m) (taken f a) (taken f b)
  taken_fuelled m a b h = record {
    within = λ d. let z = h.within (q.decides a.0 d) in let e = more_needs a in omega arith;
    enough = λ d l. let e = more_needs a in ap (taken f) (h.enough (q.decides a.0 d) (omega arith));
    less = λ l. let e = more_needs a in ap (taken f) (h.less (omega arith)) ∙ out_of_fuel;
  }
    where
      out_of_fuel : taken f (unsupported, m) ≡ (unsupported, suc m)
      out_of_fuel = let z : 1 + m ≡ suc m = omega arith in cc q.undecided

  taken_starved : (a : Answer) → FuelMeans k 0 a (unsupported, 0) → FuelMeans (suc k) 0 (taken f a) (unsupported, 0)
  taken_starved a h =
      let e = more_needs a in starved k (taken f a) (λ d. let z = h.within (q.decides a.0 d) in omega arith) (omega arith)

kept : Harmless (λ v. v)
kept = record { undecided = refl; decides = λ v d. d; needs = λ v n. refl }

extended : (x : Text) (t : Tree) → Harmless (with_binding x t)
extended x t = record { undecided = refl; decides = decides_over; needs = needs_over }
  where
    decides_over : (v : Verdict) → Decided (with_binding x t v) → Decided v
    decides_over (solved bs) d = tt
    decides_over failed d = tt
    decides_over unsupported d = d

    needs_over : (v : Verdict) (n : ℕ) → needed (with_binding x t v) n ≡ needed v n
    needs_over (solved bs) n = refl
    needs_over failed n = refl
    needs_over unsupported n = refl

-- unify

after_fuelled : (k m : ℕ) (s : Step) (go far : List Pair → Answer) → ((ps : List Pair) → FuelMeans k m (go ps) (far ps))
    → FuelMeans (suc k) (suc m) (after s go) (after s far)
after_fuelled k m (goes_on ps) go far h = taken_fuelled (λ v. v) kept k m (go ps) (far ps) (h ps)
after_fuelled k m (bind x v ps) go far h = taken_fuelled (with_binding x v) (extended x v) k m (go ps) (far ps) (h ps)
after_fuelled k m fails go far h = ended k m failed refl
after_fuelled k m unknown go far h = ended k m unsupported refl

after_starved : (k : ℕ) (s : Step) (go : List Pair → Answer) → ((ps : List Pair) → FuelMeans k 0 (go ps) (unsupported, 0))
    → FuelMeans (suc k) 0 (after s go) (unsupported, 0)
after_starved k (goes_on ps) go h = taken_starved (λ v. v) kept k (go ps) (h ps)
after_starved k (bind x v ps) go h = taken_starved (with_binding x v) (extended x v) k (go ps) (h ps)
after_starved k fails go h = starved k (failed, 1) (λ d. omega arith) (omega arith)
after_starved k unknown go h = starved k (unsupported, 1) (λ d. omega arith) (omega arith)

run_fuelled : (k m : ℕ) (ps : List Pair) → FuelMeans k m (run k ps) (run m ps)
unfolding run
run_fuelled zero m ps = no_fuel m (run m ps)
run_fuelled (suc k) zero [] = starved k (solved [], 0) (λ d. omega arith) (omega arith)
run_fuelled (suc k) zero (p ∷ ps) = after_starved k (step p.0 p.1 ps) (run k) (λ qs. run_fuelled k zero qs)
run_fuelled (suc k) (suc m) [] = emptied k m []
run_fuelled (suc k) (suc m) (p ∷ ps) = after_fuelled k m (step p.0 p.1 ps) (run k) (run m) (λ qs. run_fuelled k m qs)

-- composition may only take the decision back
finish_decides : (v : Verdict) (n : ℕ) → Decided (finish v) → Decided v × (needed (finish v) n ≡ needed v n)
finish_decides (solved bs) n d = (tt, go (compose bs) d)
  where
    go : (o : Option (List Binding)) → Decided (composed o) → needed (composed o) n ≡ suc n
    go None d' = absurd d'
    go (Some cs) d' = refl
finish_decides failed n d = (tt, refl)
finish_decides unsupported n d = (d, refl)

finish_needs : (v : Verdict) (n : ℕ) → needed (finish v) n ≤ needed v n
finish_needs (solved bs) n = go (compose bs)
  where
    go : (o : Option (List Binding)) → needed (composed o) n ≤ suc n
    go None = omega arith
    go (Some cs) = omega arith
finish_needs failed n = omega arith
finish_needs unsupported n = omega arith

pub unify_fuelled : (k m : ℕ) (ps : List Pair) → FuelMeans k m (unify k ps) (unify m ps)
unfolding unify
unify_fuelled k m ps =
    let h = run_fuelled k m ps in
    let v = (run k ps).0 in
    let n = (run k ps).1 in
    record {
      within = λ d. let e = finish_decides v n d in let z = h.within e.0 in let y = e.1 in omega arith;
      enough = λ d l. let e = finish_decides v n d in let y = e.1 in ap (λ (a : Answer). (finish a.0, a.1)) (h.enough e.0 (omega arith));
      less = λ l. let e = finish_needs v n in ap (λ (a : Answer). (finish a.0, a.1)) (h.less (omega arith));
    }

-- match

moved_fuelled : (k m : ℕ) (s : Move) (go far : List Pair → List Binding → Answer)
    → ((ps : List Pair) (bs : List Binding) → FuelMeans k m (go ps bs) (far ps bs))
    → FuelMeans (suc k) (suc m) (moved s go) (moved s far)
moved_fuelled k m (onward ps bs) go far h = taken_fuelled (λ v. v) kept k m (go ps bs) (far ps bs) (h ps bs)
moved_fuelled k m clash go far h = ended k m failed refl
moved_fuelled k m beyond go far h = ended k m unsupported refl

moved_starved : (k : ℕ) (s : Move) (go : List Pair → List Binding → Answer) → ((ps : List Pair) (bs : List Binding) → FuelMeans k 0 (go ps bs) (unsupported, 0))
    → FuelMeans (suc k) 0 (moved s go) (unsupported, 0)
moved_starved k (onward ps bs) go h = taken_starved (λ v. v) kept k (go ps bs) (h ps bs)
moved_starved k clash go h = starved k (failed, 1) (λ d. omega arith) (omega arith)
moved_starved k beyond go h = starved k (unsupported, 1) (λ d. omega arith) (omega arith)

matching_fuelled : (k m : ℕ) (ps : List Pair) (bs : List Binding) → FuelMeans k m (matching k ps bs) (matching m ps bs)
unfolding matching
matching_fuelled zero m ps bs = no_fuel m (matching m ps bs)
matching_fuelled (suc k) zero [] bs = starved k (solved bs, 0) (λ d. omega arith) (omega arith)
matching_fuelled (suc k) zero (p ∷ ps) bs = moved_starved k (move p.0 p.1 ps bs) (matching k) (λ qs cs. matching_fuelled k zero qs cs)
matching_fuelled (suc k) (suc m) [] bs = emptied k m bs
matching_fuelled (suc k) (suc m) (p ∷ ps) bs = moved_fuelled k m (move p.0 p.1 ps bs) (matching k) (matching m) (λ qs cs. matching_fuelled k m qs cs)

pub matcher_fuelled : (k m : ℕ) (ps : List Pair) → FuelMeans k m (matcher k ps) (matcher m ps)
unfolding matcher
matcher_fuelled k m ps = matching_fuelled k m ps []
