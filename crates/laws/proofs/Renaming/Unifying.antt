-- Renaming goes through unify: the renamed pairs have the renamed answer, with as many pairs taken.
use mathlib.Core.Path.{◌≡◌, refl, ◌∙◌, ap, ap₂}
use mathlib.Core.Bool.{Bool, true, false}
use mathlib.Core.List.{List, [], ◌∷◌}
use Rattle.std.specs.Prelude.{Option, Some, None}
use Prim.Native.Nat.{ℕ, zero, suc, ◌+◌}
use lib.Dec.{leb}
use Rattle.rules.specs.Bytes.{Text, same}
use Rattle.rules.specs.Tree.{Tree, variable, atom, apply, Trees, none, more, head, children, same_tree, occurs, tamtplus}
use Rattle.rules.specs.Substitution.{substitute, Binding, Pair, instantiate_pairs, size_pairs}
use Rattle.rules.specs.Sums.{equivalent}
use Rattle.rules.specs.declared.Sort.{Sort}
use Rattle.rules.specs.Sorts.{variable_sort, sorted, refinable, sort_refuted}
use Rattle.rules.specs.Solving.{Rest, emptied, mismatch, stuck, equation, cancel_sums, Step, goes_on, bind, fails, unknown, fits, bind_into, unless_refinable, swap_at, swap_for, swap_key, sort_check, occurs_check, eliminate_at, eliminate, push_children, if_refuted, sum_step, decompose_at, decompose, against, differ, step_at, step, Verdict, solved, failed, unsupported, Answer, with_binding, after, run, compose, composed, finish, unify}
use Rattle.rules.specs.Tidy.{Built}
use Rattle.laws.proofs.Equality.Summands.{summands_built}
use Rattle.laws.proofs.Sheets.BuiltRun.{BuiltPairs, BuiltStep, step_built}
use Rattle.laws.proofs.Renaming.Renamed.{Renaming, rename, renames, rename_pair, rename_pairs, rename_bindings, rename_verdict, rename_answer, mapped, tree_renamed, equivalent_renamed, occurs_renamed, sorted_renamed, refinable_renamed, refuted_renamed, children_renamed}
use Rattle.laws.proofs.Renaming.Instances.{pairs_renamed, size_pairs_renamed, compose_renamed}
use Rattle.laws.proofs.Renaming.Sums.{rest_map, sums_over, renaming_over}

abbrev rename_step : (Text → Text) → Step → Step
rename_step r (goes_on ps) = goes_on (rename_pairs r ps)
rename_step r (bind x v ps) = bind (r x) (rename r v) (rename_pairs r ps)
rename_step r fails = fails
rename_step r unknown = unknown

module _ {r : Text → Text} (h : Renaming r) where
  -- A variable against a tree

  into_renamed : (x : Text) (v : Tree) (ps : List Pair) → bind_into (r x) (rename r v) (rename_pairs r ps) ≡ rename_step r (bind_into x v ps)
  unfolding bind_into
  into_renamed x v ps =
      ap (λ (qs : List Pair). fits (leb (size_pairs qs) 4096) (r x) (rename r v) qs) (pairs_renamed h ((x, v) ∷ []) ps)
      ∙ ap (λ (n : ℕ). fits (leb n 4096) (r x) (rename r v) (rename_pairs r qs)) (size_pairs_renamed h qs)
      ∙ fit (leb (size_pairs qs) 4096)
    where
      qs : List Pair
      qs = instantiate_pairs ((x, v) ∷ []) ps

      fit : (c : Bool) → fits c (r x) (rename r v) (rename_pairs r qs) ≡ rename_step r (fits c x v qs)
      fit true = refl
      fit false = refl

  unless_renamed : (s : Sort) (v : Tree) → unless_refinable (refinable s (rename r v)) ≡ rename_step r (unless_refinable (refinable s v))
  unless_renamed s v = ap unless_refinable (refinable_renamed h s v) ∙ go (refinable s v)
    where
      go : (c : Bool) → unless_refinable c ≡ rename_step r (unless_refinable c)
      go true = refl
      go false = refl

  swap_renamed : (s : Sort) (x : Text) (v : Tree) (ps : List Pair) → swap_key s (r x) (rename r v) (rename_pairs r ps) ≡ rename_step r (swap_key s x v ps)
  unfolding substitute
  swap_renamed s x (variable y) ps = ap (λ (o : Option Sort). swap_for o s (r x) (r y) (rename_pairs r ps)) (h.sort_kept y) ∙ for (variable_sort y)
    where
      at : (c : Bool) → swap_at c s (r x) (r y) (rename_pairs r ps) ≡ rename_step r (swap_at c s x y ps)
      at true = into_renamed y (variable x) ps
      at false = unless_renamed s (variable y)

      for : (o : Option Sort) → swap_for o s (r x) (r y) (rename_pairs r ps) ≡ rename_step r (swap_for o s x y ps)
      for None = unless_renamed s (variable y)
      for (Some q) = ap (λ (c : Bool). swap_at c s (r x) (r y) (rename_pairs r ps)) (sorted_renamed h q (variable x)) ∙ at (sorted q (variable x))
  swap_renamed s x (atom c d) ps = unless_renamed s (atom c d)
  swap_renamed s x (apply f ts) ps = unless_renamed s (apply f ts)

  sort_renamed : (c : Bool) (s : Sort) (x : Text) (v : Tree) (ps : List Pair)
      → sort_check c s (r x) (rename r v) (rename_pairs r ps) ≡ rename_step r (sort_check c s x v ps)
  sort_renamed true s x v ps = into_renamed x v ps
  sort_renamed false s x v ps = swap_renamed s x v ps

  check_renamed : (c : Bool) (s : Sort) (x : Text) (v : Tree) (ps : List Pair)
      → occurs_check c s (r x) (rename r v) (rename_pairs r ps) ≡ rename_step r (occurs_check c s x v ps)
  check_renamed true s x v ps = refl
  check_renamed false s x v ps =
      ap (λ (c : Bool). sort_check c s (r x) (rename r v) (rename_pairs r ps)) (sorted_renamed h s v) ∙ sort_renamed (sorted s v) s x v ps

  eliminate_renamed : (x : Text) (v : Tree) (ps : List Pair) → eliminate (r x) (rename r v) (rename_pairs r ps) ≡ rename_step r (eliminate x v ps)
  unfolding eliminate
  eliminate_renamed x v ps = ap (λ (o : Option Sort). eliminate_at o (r x) (rename r v) (rename_pairs r ps)) (h.sort_kept x) ∙ go (variable_sort x)
    where
      go : (o : Option Sort) → eliminate_at o (r x) (rename r v) (rename_pairs r ps) ≡ rename_step r (eliminate_at o x v ps)
      go None = refl
      go (Some s) =
          ap (λ (c : Bool). occurs_check c s (r x) (rename r v) (rename_pairs r ps)) (occurs_renamed h x v) ∙ check_renamed (occurs x v) s x v ps

  -- Two applications or atoms

  push_renamed : (ts us : Trees) (ps : List Pair) → push_children (renames r ts) (renames r us) (rename_pairs r ps) ≡ rename_pairs r (push_children ts us ps)
  unfolding push_children substitute
  push_renamed none us ps = refl
  push_renamed (more t ts) none ps = refl
  push_renamed (more t ts) (more u us) ps = ap (λ (qs : List Pair). rename_pair r (t, u) ∷ qs) (push_renamed ts us ps)

  -- neither has another head by it
  decompose_renamed : (t u : Tree) (ps : List Pair) → head (rename r t) ≡ head t → head (rename r u) ≡ head u → Built t → Built u
      → decompose (rename r t) (rename r u) (rename_pairs r ps) ≡ rename_step r (decompose t u ps)
  unfolding decompose
  decompose_renamed t u ps e f p q =
      ap₂ (λ (a b : Text). decompose_at (same a b) (same a tamtplus) (rename r t) (rename r u) (rename_pairs r ps)) e f
      ∙ go (same (head t) (head u)) (same (head t) tamtplus)
    where
      refuted : (c : Bool) → if_refuted c ≡ rename_step r (if_refuted c)
      refuted true = refl
      refuted false = refl

      rest : (w : Rest) → sum_step (rest_map (rename r) (rename r) w) (rename r t) (rename r u) (rename_pairs r ps) ≡ rename_step r (sum_step w t u ps)
      rest emptied = refl
      rest mismatch = refl
      rest (equation a b) = refl
      rest stuck = ap if_refuted (refuted_renamed h t u) ∙ refuted (sort_refuted t u)

      go : (b c : Bool) → decompose_at b c (rename r t) (rename r u) (rename_pairs r ps) ≡ rename_step r (decompose_at b c t u ps)
      go false c = refl
      go true true =
          ap (λ (w : Rest). sum_step w (rename r t) (rename r u) (rename_pairs r ps))
          (sums_over (rename r) (rename r) Built Built equivalent (equivalent_renamed h) (renaming_over r) (renaming_over r) true t u (summands_built t p) (summands_built u q))
          ∙ rest (cancel_sums true equivalent t u)
      go true false =
          ap₂ (λ (ts us : Trees). goes_on (push_children ts us (rename_pairs r ps))) (children_renamed h t) (children_renamed h u)
          ∙ ap goes_on (push_renamed (children t) (children u) ps)

  -- One step

  against_renamed : (t u : Tree) (ps : List Pair) → head (rename r t) ≡ head t → Built t → Built u
      → against (rename r t) (rename r u) (rename_pairs r ps) ≡ rename_step r (against t u ps)
  unfolding substitute head
  against_renamed t (variable y) ps e p q = eliminate_renamed y t ps
  against_renamed t (atom c d) ps e p q = decompose_renamed t (atom c d) ps e refl p q
  against_renamed t (apply g us) ps e p q = decompose_renamed t (apply g us) ps e refl p q

  differ_renamed : (t u : Tree) (ps : List Pair) → Built t → Built u
      → differ (rename r t) (rename r u) (rename_pairs r ps) ≡ rename_step r (differ t u ps)
  unfolding substitute head
  differ_renamed (variable x) u ps p q = eliminate_renamed x u ps
  differ_renamed (atom c d) u ps p q = against_renamed (atom c d) u ps refl p q
  differ_renamed (apply f ts) u ps p q = against_renamed (apply f ts) u ps refl p q

  step_renamed : (t u : Tree) (ps : List Pair) → Built t → Built u → step (rename r t) (rename r u) (rename_pairs r ps) ≡ rename_step r (step t u ps)
  unfolding step
  step_renamed t u ps p q =
      ap (λ (c : Bool). step_at c (rename r t) (rename r u) (rename_pairs r ps)) (tree_renamed h t u) ∙ go (same_tree t u)
    where
      go : (c : Bool) → step_at c (rename r t) (rename r u) (rename_pairs r ps) ≡ rename_step r (step_at c t u ps)
      go true = refl
      go false = differ_renamed t u ps p q

  -- The run

  with_renamed : (x : Text) (v : Tree) (w : Verdict) → with_binding (r x) (rename r v) (rename_verdict r w) ≡ rename_verdict r (with_binding x v w)
  with_renamed x v (solved bs) = refl
  with_renamed x v failed = refl
  with_renamed x v unsupported = refl

  after_renamed : (go : List Pair → Answer) (s : Step) → BuiltStep s
      → ((qs : List Pair) → BuiltPairs qs → go (rename_pairs r qs) ≡ rename_answer r (go qs)) → after (rename_step r s) go ≡ rename_answer r (after s go)
  after_renamed go (goes_on ps) b k = ap (λ (a : Answer). (a.0, 1 + a.1)) (k ps b)
  after_renamed go (bind x v ps) b k =
      ap (λ (a : Answer). (with_binding (r x) (rename r v) a.0, 1 + a.1)) (k ps b.2)
      ∙ ap (λ (w : Verdict). (w, 1 + (go ps).1)) (with_renamed x v (go ps).0)
  after_renamed go fails b k = refl
  after_renamed go unknown b k = refl

  run_renamed : (k : ℕ) (ps : List Pair) → BuiltPairs ps → run k (rename_pairs r ps) ≡ rename_answer r (run k ps)
  unfolding run
  run_renamed zero ps b = refl
  run_renamed (suc k) [] b = refl
  run_renamed (suc k) (p ∷ ps) b =
      ap (λ (s : Step). after s (λ qs. run k qs)) (step_renamed p.0 p.1 ps b.0 b.1)
      ∙ after_renamed (λ qs. run k qs) (step p.0 p.1 ps) (step_built p.0 p.1 ps b.0 b.1 b.2) (λ qs c. run_renamed k qs c)

  finish_renamed : (w : Verdict) → finish (rename_verdict r w) ≡ rename_verdict r (finish w)
  finish_renamed (solved bs) = ap composed (compose_renamed h bs) ∙ go (compose bs)
    where
      go : (o : Option (List Binding)) → composed (mapped (rename_bindings r) o) ≡ rename_verdict r (composed o)
      go None = refl
      go (Some cs) = refl
  finish_renamed failed = refl
  finish_renamed unsupported = refl

  pub unify_renamed : (k : ℕ) (ps : List Pair) → BuiltPairs ps → unify k (rename_pairs r ps) ≡ rename_answer r (unify k ps)
  unfolding unify
  unify_renamed k ps b =
      ap (λ (a : Answer). (finish a.0, a.1)) (run_renamed k ps b) ∙ ap (λ (w : Verdict). (w, (run k ps).1)) (finish_renamed (run k ps).0)
