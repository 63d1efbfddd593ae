-- The run of `match`, pair by pair, and its answer after some pairs.
use Prim.Native.Nat.{ℕ, zero, suc, ◌+◌, ◌-◌, ◌<◌}
use mathlib.Core.Path.{◌≡◌, refl, ap}
use mathlib.Core.List.{List, [], ◌∷◌}
use native.Mathlib.Omega.{arith}
use Rattle.rules.specs.Tree.{Tree}
use Rattle.rules.specs.Substitution.{Binding, Pair}
use Rattle.rules.specs.Solving.{solved, unsupported, Answer}
use Rattle.rules.specs.Matching.{move, moved, matching, matcher}

-- the answer after k pairs taken
abbrev pub later : ℕ → Answer → Answer
later k a = (a.0, k + a.1)

-- The run, pair by pair

pub matching_end : (k : ℕ) (bs : List Binding) → 0 < k → matching k [] bs ≡ (solved bs, 0)
unfolding matching
matching_end zero bs h = absurd (omega arith)
matching_end (suc k) bs h = refl

pub matching_step : (k : ℕ) (t u : Tree) (ps : List Pair) (bs : List Binding) → 0 < k → matching k ((t, u) ∷ ps) bs ≡ moved (move t u ps bs) (λ qs cs. matching (k - 1) qs cs)
unfolding matching
matching_step zero t u ps bs h = absurd (omega arith)
matching_step (suc k) t u ps bs h = let e : k ≡ suc k - 1 = omega arith in ap (λ (m : ℕ). moved (move t u ps bs) (λ qs cs. matching m qs cs)) e

pub matching_spent : (k : ℕ) (ps : List Pair) (bs : List Binding) → k ≡ 0 → matching k ps bs ≡ (unsupported, 0)
unfolding matching
matching_spent zero ps bs h = refl
matching_spent (suc k) ps bs h = absurd (omega arith)

pub matcher_start : (k : ℕ) (ps : List Pair) → matcher k ps ≡ later 0 (matching k ps [])
unfolding matcher
matcher_start k ps = let a = matching k ps [] in let z : a.1 ≡ 0 + a.1 = omega arith in ap (λ (i : ℕ). (a.0, i)) z
