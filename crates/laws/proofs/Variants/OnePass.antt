-- complete in one pass: judging the schemes one after the other gives its answer.
use Prim.Native.Nat.{ℕ, zero, suc, ◌+◌, ◌≤◌, ◌<◌}
use native.Mathlib.Omega.{arith}
use mathlib.Core.Path.{◌≡◌, refl, sym, ◌∙◌, ap, subst}
use mathlib.Core.Bool.{Bool, true, false}
use mathlib.Core.List.{List, [], ◌∷◌, map}
use Rattle.std.specs.Prelude.{slice_get, Option, Some, None}
use Rattle.laws.proofs.Basics.Somes.{none_ne_some, some_injective}
use lib.Dec.{leb}
use lib.ListN.{drop, drop_of_length-le}
use Rattle.rules.specs.Bytes.{Text}
use Rattle.rules.specs.Maybe.{◌>>=◌, guard, every}
use Rattle.rules.specs.Tree.{Tree}
use Rattle.rules.specs.Substitution.{Binding}
use Rattle.rules.specs.Sums.{equivalent}
use Rattle.rules.specs.Solving.{Verdict, solved, failed, unsupported, unify}
use Rattle.rules.specs.Sheet.{Member}
use Rattle.rules.specs.Reduction.{normalize}
use Rattle.rules.specs.Cover.{variables}
use Rattle.rules.specs.Variants.{Variant, read_member, instance_of, fresh_base, fresh_from, Scheme, schemes_from, scheme_count, schemes, system, solved_schemes, generalized, all_generalized, complete}
use Rattle.laws.specs.Schemes.{scheme_at, Judgement, pending, settled, answered, judge_tests, judge_instance, judge, judge_verdict, judged, judged_from}
use Rattle.laws.proofs.Basics.Tests.{true_leb, false_leb}
use Rattle.laws.proofs.Variants.SchemeCount.{schemes_counted}
use Rattle.laws.proofs.Variants.SchemeAt.{scheme_found}

-- The schemes in order

module _ (xs : List Text) (ms : List Variant) where
  -- what the solved schemes make of a judgement
  abbrev of_solved : Judgement → List Variant → Option Bool
  of_solved pending vs = all_generalized xs ms vs
  of_solved (settled r) vs = r

  of_none : (j : Judgement) → answered j ≡ of_solved j []
  unfolding all_generalized
  of_none pending = refl
  of_none (settled r) = refl

  of_first : (w : Tree) (bs : List Binding) (vs : List Variant) (j : Judgement) → of_solved (judge xs ms bs w j) vs ≡ of_solved j ((w, bs) ∷ vs)
  unfolding all_generalized judge
  of_first w bs vs (settled r) = refl
  of_first w bs vs pending = go (instance_of bs w)
    where
      tests : (a b : Bool) → of_solved (judge_tests a b) vs ≡ elim a [ false ↦ all_generalized xs ms vs | true ↦ elim b [ true ↦ all_generalized xs ms vs | false ↦ Some false ] ]
      tests false b = refl
      tests true true = refl
      tests true false = refl

      go : (o : Option Tree) → of_solved (judge_instance xs ms bs o) vs ≡ (o >>= λ value. elim (equivalent value (normalize value)) [
        | false ↦ all_generalized xs ms vs
        | true ↦ elim (generalized xs ms bs value) [ true ↦ all_generalized xs ms vs | false ↦ Some false ]
      ])
      go None = refl
      go (Some v) = tests (equivalent v (normalize v)) (generalized xs ms bs v)

  module _ (term : Tree) where
    judged_solved : (ss : List Scheme) (j : Judgement) → judged term xs ms ss j ≡ (solved_schemes term ss >>= of_solved j)
    unfolding judged solved_schemes
    judged_solved [] j = of_none j
    judged_solved (s ∷ ss) j = go (unify 65536 (system term s)).0 (judged_solved ss)
      where
        with_first : (bs : List Binding) (o : Option (List Variant))
            → (o >>= of_solved (judge xs ms bs s.value j)) ≡ ((o >>= λ rest. Some ((s.value, bs) ∷ rest)) >>= of_solved j)
        with_first bs None = refl
        with_first bs (Some vs) = of_first s.value bs vs j

        go : (v : Verdict) → ((k : Judgement) → judged term xs ms ss k ≡ (solved_schemes term ss >>= of_solved k))
            → (judge_verdict xs ms s.value v j >>= λ k. judged term xs ms ss k)
            ≡ (elim v [ solved bs ↦ solved_schemes term ss >>= λ rest. Some ((s.value, bs) ∷ rest) | failed ↦ solved_schemes term ss | unsupported ↦ None ] >>= of_solved j)
        go (solved bs) ih = ih (judge xs ms bs s.value j) ∙ with_first bs (solved_schemes term ss)
        go failed ih = ih j
        go unsupported ih = refl

    pub one_pass : (ss : List Scheme) → (solved_schemes term ss >>= all_generalized xs ms) ≡ judged term xs ms ss pending
    one_pass ss = sym (judged_solved ss pending)

-- The schemes by index

module _ {A : Type 0} where
  drop_found : (l : List A) (i : ℕ) (a : A) → slice_get l i ≡ Some a → drop i l ≡ a ∷ drop (suc i) l
  drop_found [] i a h = absurd (none_ne_some a h)
  drop_found (b ∷ l) zero a h = ap (λ (c : A). c ∷ l) (some_injective b a h)
  drop_found (b ∷ l) (suc i) a h = drop_found l i a h

module _ (name : ℕ → Text) (term : Tree) (xs : List Text) (ms : List Variant) where
  -- one scheme more, with its verdict
  pub judged_next : (i : ℕ) (j : Judgement) (v : Verdict) → i < scheme_count term → (unify 65536 (system term (scheme_at name term 0 i))).0 ≡ v
      → judged_from name term xs ms i j ≡ (judge_verdict xs ms (scheme_at name term 0 i).value v j >>= λ k. judged_from name term xs ms (i + 1) k)
  unfolding judged_from judged
  judged_next i j v h e =
      let s = scheme_at name term 0 i in
      let n : suc i ≡ i + 1 = omega arith in
      ap (λ (ss : List Scheme). judged term xs ms ss j) (drop_found (schemes_from name term 0) i s (scheme_found name term 0 i h))
      ∙ ap (λ (w : Verdict). judge_verdict xs ms s.value w j >>= λ k. judged term xs ms (drop (suc i) (schemes_from name term 0)) k) e
      ∙ ap (λ (m : ℕ). judge_verdict xs ms s.value v j >>= λ k. judged term xs ms (drop m (schemes_from name term 0)) k) n

  -- no scheme is left
  pub judged_end : (i : ℕ) (j : Judgement) → scheme_count term ≤ i → judged_from name term xs ms i j ≡ answered j
  unfolding judged_from judged
  judged_end i j h =
      ap (λ (ss : List Scheme). judged term xs ms ss j)
      (drop_of_length-le (schemes_from name term 0) {i = i} (subst (λ (k : ℕ). k ≤ i) (sym (schemes_counted name term 0)) h))

-- complete

module _ (term : Tree) (members : List Member) where
  -- an answer, where the members read, each variable has an index and the schemes are not too many
  pub complete_judged : (ms : List Variant) (base : ℕ) → every (map read_member members) ≡ Some ms → fresh_base term 0 ≡ Some base → scheme_count term ≤ 4096
      → complete term members ≡ judged_from (fresh_from base) term (variables term []) ms 0 pending
  unfolding complete schemes judged_from
  complete_judged ms base e f h =
      ap (λ (o : Option (List Variant)). o >>= λ vs. schemes term >>= λ ss. solved_schemes term ss >>= all_generalized (variables term []) vs) e
      ∙ ap (λ (o : Option ℕ). (o >>= λ b. guard (leb (scheme_count term) 4096) >>= λ _. Some (schemes_from (fresh_from b) term 0))
      >>= λ ss. solved_schemes term ss >>= all_generalized (variables term []) ms) f
      ∙ ap (λ (b : Bool). (guard b >>= λ _. Some (schemes_from (fresh_from base) term 0)) >>= λ ss. solved_schemes term ss >>= all_generalized (variables term []) ms)
      (true_leb (scheme_count term) 4096 h)
      ∙ one_pass (variables term []) ms term (schemes_from (fresh_from base) term 0)

  -- no answer otherwise
  pub complete_unread : every (map read_member members) ≡ None → complete term members ≡ None
  unfolding complete
  complete_unread e = ap (λ (o : Option (List Variant)). o >>= λ ms. schemes term >>= λ ss. solved_schemes term ss >>= all_generalized (variables term []) ms) e

  no_schemes : schemes term ≡ None → complete term members ≡ None
  unfolding complete
  no_schemes e = go (every (map read_member members))
    where
      go : (o : Option (List Variant)) → (o >>= λ ms. schemes term >>= λ ss. solved_schemes term ss >>= all_generalized (variables term []) ms) ≡ None
      go None = refl
      go (Some ms) = ap (λ (o : Option (List Scheme)). o >>= λ ss. solved_schemes term ss >>= all_generalized (variables term []) ms) e

  pub complete_unindexed : fresh_base term 0 ≡ None → complete term members ≡ None
  unfolding schemes
  complete_unindexed e = no_schemes (ap (λ (o : Option ℕ). o >>= λ base. guard (leb (scheme_count term) 4096) >>= λ _. Some (schemes_from (fresh_from base) term 0)) e)

  pub complete_over : 4096 < scheme_count term → complete term members ≡ None
  unfolding schemes
  complete_over h = no_schemes (go (fresh_base term 0))
    where
      go : (o : Option ℕ) → (o >>= λ base. guard (leb (scheme_count term) 4096) >>= λ _. Some (schemes_from (fresh_from base) term 0)) ≡ None
      go None = refl
      go (Some base) = ap (λ (b : Bool). guard b >>= λ _. Some (schemes_from (fresh_from base) term 0)) (false_leb (scheme_count term) 4096 h)
