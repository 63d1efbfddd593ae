-- The count in an answer of unify or match is the number of the pairs taken, at most the fuel.
use mathlib.Core.Path.{◌≡◌, refl}
use mathlib.Core.List.{List, [], ◌∷◌}
use Prim.Native.Nat.{ℕ, zero, suc, ◌+◌, ◌≤◌}
use native.Mathlib.Omega.{arith}
use lib.ListN.{length}
use Rattle.rules.specs.Substitution.{Binding, Pair}
use Rattle.rules.specs.Solving.{Answer, Step, goes_on, bind, fails, unknown, after, step, run, unify}
use Rattle.rules.specs.Matching.{Move, onward, clash, beyond, moved, move, matching, matcher}
use Rattle.rules.specs.Taken.{taken_after, taken, taken_after_move, taken_matching, taken_by_match}

-- the count, and that it is within the fuel
record Counts (fuel n : ℕ) (ps : List Pair) : Type 0 where
  pub counted : n ≡ length ps
  pub within : length ps ≤ fuel

one_more : (k n : ℕ) (p : Pair) (ps : List Pair) → Counts k n ps → Counts (suc k) (1 + n) (p ∷ ps)
one_more k n p ps c = record { counted = let e = c.counted in omega arith; within = let h = c.within in omega arith }

ended : (k : ℕ) (p : Pair) → Counts (suc k) 1 (p ∷ [])
ended k p = record { counted = refl; within = omega arith }

-- unify

after_counts : (k : ℕ) (p : Pair) (s : Step) (go : List Pair → Answer) (list : List Pair → List Pair) → ((qs : List Pair) → Counts k (go qs).1 (list qs))
    → Counts (suc k) (after s go).1 (p ∷ taken_after s list)
after_counts k p (goes_on qs) go list h = one_more k (go qs).1 p (list qs) (h qs)
after_counts k p (bind x v qs) go list h = one_more k (go qs).1 p (list qs) (h qs)
after_counts k p fails go list h = ended k p
after_counts k p unknown go list h = ended k p

run_counts : (k : ℕ) (ps : List Pair) → Counts k (run k ps).1 (taken k ps)
unfolding run taken
run_counts zero ps = record { counted = refl; within = omega arith }
run_counts (suc k) [] = record { counted = refl; within = omega arith }
run_counts (suc k) (p ∷ ps) = after_counts k p (step p.0 p.1 ps) (λ qs. run k qs) (λ qs. taken k qs) (λ qs. run_counts k qs)

pub unify_counted : (fuel : ℕ) (ps : List Pair) → (unify fuel ps).1 ≡ length (taken fuel ps)
unfolding unify
unify_counted fuel ps = (run_counts fuel ps).counted

pub taken_within : (fuel : ℕ) (ps : List Pair) → length (taken fuel ps) ≤ fuel
taken_within fuel ps = (run_counts fuel ps).within

-- match

moved_counts : (k : ℕ) (p : Pair) (s : Move) (go : List Pair → List Binding → Answer) (list : List Pair → List Binding → List Pair)
    → ((qs : List Pair) (bs : List Binding) → Counts k (go qs bs).1 (list qs bs)) → Counts (suc k) (moved s go).1 (p ∷ taken_after_move s list)
moved_counts k p (onward qs bs) go list h = one_more k (go qs bs).1 p (list qs bs) (h qs bs)
moved_counts k p clash go list h = ended k p
moved_counts k p beyond go list h = ended k p

matching_counts : (k : ℕ) (ps : List Pair) (bs : List Binding) → Counts k (matching k ps bs).1 (taken_matching k ps bs)
unfolding matching taken_matching
matching_counts zero ps bs = record { counted = refl; within = omega arith }
matching_counts (suc k) [] bs = record { counted = refl; within = omega arith }
matching_counts (suc k) (p ∷ ps) bs =
    moved_counts k p (move p.0 p.1 ps bs) (λ qs cs. matching k qs cs) (λ qs cs. taken_matching k qs cs) (λ qs cs. matching_counts k qs cs)

pub match_counted : (fuel : ℕ) (ps : List Pair) → (matcher fuel ps).1 ≡ length (taken_by_match fuel ps)
unfolding matcher taken_by_match
match_counted fuel ps = (matching_counts fuel ps []).counted

pub match_taken_within : (fuel : ℕ) (ps : List Pair) → length (taken_by_match fuel ps) ≤ fuel
unfolding taken_by_match
match_taken_within fuel ps = (matching_counts fuel ps []).within
