-- What a match answer means: its bindings are the only well-sorted matcher, at the pattern variables.
use mathlib.Core.Path.{◌≡◌, refl, sym, subst, ◌∙◌}
use mathlib.Core.Bool.{true, false, true≢false}
use mathlib.Core.List.{List, [], ◌∷◌}
use mathlib.Core.Logic.{◌↔◌}
use Rattle.std.specs.Prelude.{Option, Some, None}
use Prim.Native.Nat.{ℕ, zero, suc}
use Rattle.rules.specs.Bytes.{Text}
use Rattle.rules.specs.Tree.{Tree, occurs}
use Rattle.rules.specs.Substitution.{Substitution, substitute, Binding, Pair, lookup}
use Rattle.rules.specs.Equality.{Ac, reflexive}
use Rattle.rules.specs.Solving.{Verdict, solved, failed, unsupported, Answer}
use Rattle.rules.specs.Matching.{bound, Move, onward, clash, beyond, move, moved, matching, matcher}
use Rattle.rules.specs.Tidy.{Arity, TidyPairs}
use Rattle.rules.specs.Meaning.{WellSorted, Equates, Matcher, in_patterns, NoKey, Distinct, MatchMeans}
use Rattle.laws.proofs.Basics.Tests.{neither}
use Rattle.laws.proofs.Solving.Substituting.{free_occurs}
use Rattle.laws.proofs.Solving.Binding.{GoodBindings, good_bindings}
use Rattle.laws.proofs.Solving.Composing.{lookup_here, lookup_past}
use Rattle.laws.proofs.Solving.Moving.{unchanged, still, Agrees, FreePatterns, Finds, finds, Advances, MoveMeans, move_means}

pub matcher_equates : (σ : Substitution) (ps : List Pair) → Matcher σ ps ↔ Equates σ unchanged ps
matcher_equates σ [] = (λ h. h, λ h. h)
matcher_equates σ (p ∷ ps) =
    let k = matcher_equates σ ps in
    (λ h. (subst (Ac (substitute σ p.0)) (sym (still p.1)) h.0, k.0 h.1), λ h. (subst (Ac (substitute σ p.0)) (still p.1) h.0, k.1 h.1))

-- bindings with different keys agree with themselves

agrees_past : (b : Binding) (bs cs : List Binding) → NoKey b.0 cs → Agrees (lookup bs) cs → Agrees (lookup (b ∷ bs)) cs
agrees_past b bs [] n a = tt
agrees_past b bs (c ∷ cs) n a = (subst (λ (t : Tree). Ac t c.1) (sym (lookup_past b.0 b.1 bs c.0 n.0)) a.0, agrees_past b bs cs n.1 a.1)

agrees_self : (bs : List Binding) → Distinct bs → Agrees (lookup bs) bs
agrees_self [] n = tt
agrees_self (b ∷ bs) n = (subst (λ (t : Tree). Ac t b.1) (sym (lookup_here b.0 b.1 bs)) reflexive, agrees_past b bs bs n.0 (agrees_self bs n.1))

free_patterns : (x : Text) (ps : List Pair) → FreePatterns x ps → in_patterns x ps ≡ false
unfolding in_patterns
free_patterns x [] f = refl
free_patterns x (p ∷ ps) f = neither (occurs x p.0) (in_patterns x ps) (free_occurs x p.0 f.0) (free_patterns x ps f.1)

module _ (arity : Text → ℕ) (counts : Arity arity) where
  record Matched (ps : List Pair) (bs cs : List Binding) : Type 0 where
    good : GoodBindings arity cs
    distinct : Distinct cs
    holds : (y : Text) → NoKey y cs → FreePatterns y ps × NoKey y bs
    matchers : (σ : Substitution) → WellSorted arity σ → (Equates σ unchanged ps × Agrees σ bs) ↔ Agrees σ cs

  -- what a run says of the pairs and of the bindings that it starts with
  abbrev RunMeans : List Pair → List Binding → Verdict → Type 0
  RunMeans ps bs (solved cs) = Matched ps bs cs
  RunMeans ps bs failed = (σ : Substitution) → WellSorted arity σ → Equates σ unchanged ps → Agrees σ bs → ⊥
  RunMeans ps bs unsupported = Unit {0}

  onward_means : (p : Pair) (ps qs : List Pair) (bs cs : List Binding) (v : Verdict) → Advances arity p.0 p.1 ps bs qs cs → RunMeans qs cs v
      → RunMeans (p ∷ ps) bs v
  onward_means p ps qs bs cs (solved es) s m = record {
    good = m.good;
    distinct = m.distinct;
    holds = λ y k. let a = m.holds y k in let b = s.holds y a.0 a.1 in ((b.0, b.1), b.2);
    matchers = λ σ w. (
      λ h. (m.matchers σ w).0 ((s.matchers σ w).0 (h.0.0, h.0.1, h.1)),
      λ h. let k = (s.matchers σ w).1 ((m.matchers σ w).1 h) in ((k.0, k.1), k.2),
    );
  }
  onward_means p ps qs bs cs failed s m = λ σ w h a. let k = (s.matchers σ w).0 (h.0, h.1, a) in m σ w k.0 k.1
  onward_means p ps qs bs cs unsupported s m = tt

  moved_means : (p : Pair) (ps : List Pair) (bs : List Binding) (s : Move) (go : List Pair → List Binding → Answer) → MoveMeans arity p.0 p.1 ps bs s
      → ((qs : List Pair) (cs : List Binding) → TidyPairs arity qs → GoodBindings arity cs → Distinct cs → RunMeans qs cs (go qs cs).0) → RunMeans (p ∷ ps) bs (moved s go).0
  moved_means p ps bs (onward qs cs) go s h = onward_means p ps qs bs cs (go qs cs).0 s (h qs cs s.tidy s.good s.distinct)
  moved_means p ps bs clash go s h = λ σ w q a. s σ w q.0 a
  moved_means p ps bs beyond go s h = tt

  matching_means : (k : ℕ) (ps : List Pair) (bs : List Binding) → TidyPairs arity ps → GoodBindings arity bs → Distinct bs
      → RunMeans ps bs (matching k ps bs).0
  unfolding matching
  matching_means zero ps bs d g n = tt
  matching_means (suc k) [] bs d g n = record { good = g; distinct = n; holds = λ y f. (tt, f); matchers = λ σ w. (λ h. h.1, λ h. (tt, h)) }
  matching_means (suc k) (p ∷ ps) bs d g n = moved_means p ps bs (move p.0 p.1 ps bs) (λ qs cs. matching k qs cs)
      (move_means arity counts p.0 p.1 ps bs d.0 d.1 d.2 g n) (λ qs cs dq gq nq. matching_means k qs cs dq gq nq)

  -- a substitution that agrees with the bindings has their values at every variable that is in a pattern
  at_key : (ps : List Pair) (bs : List Binding) → ((y : Text) → NoKey y bs → FreePatterns y ps) → (σ : Substitution) → Agrees σ bs → (x : Text)
      → in_patterns x ps ≡ true → Ac (σ x) (lookup bs x)
  at_key ps bs c σ a x f = go (bound x bs) (finds x bs)
    where
      go : (o : Option Tree) → Finds x bs o → Ac (σ x) (lookup bs x)
      go None k = absurd (true≢false (sym f ∙ free_patterns x ps (c x k)))
      go (Some v) k = subst (Ac (σ x)) (sym k.looked_up) (k.given σ a)

  answer_means : (ps : List Pair) (v : Verdict) → RunMeans ps [] v → MatchMeans arity ps v
  answer_means ps (solved bs) m =
      let w = good_bindings arity bs m.good in
      record {
        well_sorted = w;
        matcher = (matcher_equates (lookup bs) ps).1 ((m.matchers (lookup bs) w).1 (agrees_self bs m.distinct)).0;
        only = λ σ g h. at_key ps bs (λ y k. (m.holds y k).0) σ ((m.matchers σ g).0 ((matcher_equates σ ps).0 h, tt));
        distinct = m.distinct;
      }
  answer_means ps failed m = λ σ w h. m σ w ((matcher_equates σ ps).0 h) tt
  answer_means ps unsupported m = tt

  pub matcher_means : (fuel : ℕ) (ps : List Pair) → TidyPairs arity ps → MatchMeans arity ps (matcher fuel ps).0
  unfolding matcher
  matcher_means fuel ps d = answer_means ps (matching fuel ps []).0 (matching_means fuel ps [] d tt tt)
