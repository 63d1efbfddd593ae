-- A run that goes on after some steps: the bindings made so far, the last made first, and the pairs taken so far.
use Prim.Native.Nat.{ℕ, zero, suc, ◌+◌, ◌-◌, ◌<◌}
use mathlib.Core.Path.{◌≡◌, refl, ap}
use mathlib.Core.List.{List, [], ◌∷◌, reverse_aux}
use native.Mathlib.Omega.{arith}
use Rattle.rules.specs.Bytes.{Text}
use Rattle.rules.specs.Tree.{Tree}
use Rattle.rules.specs.Substitution.{Binding, Pair}
use Rattle.rules.specs.Solving.{step, Verdict, solved, failed, unsupported, Answer, with_binding, after, finish, run, unify}

abbrev pub with_bindings : List Binding → Verdict → Verdict
with_bindings bs (solved cs) = solved (reverse_aux bs cs)
with_bindings bs failed = failed
with_bindings bs unsupported = unsupported

-- the whole answer, where the answer a is that of the pairs left
abbrev pub resumed : List Binding → ℕ → Answer → Answer
resumed bs n a = (with_bindings bs a.0, n + a.1)

pub with_none : (v : Verdict) → with_bindings [] v ≡ v
with_none (solved cs) = refl
with_none failed = refl
with_none unsupported = refl

-- the next binding
pub with_more : (x : Text) (t : Tree) (bs : List Binding) (v : Verdict) → with_bindings bs (with_binding x t v) ≡ with_bindings ((x, t) ∷ bs) v
with_more x t bs (solved cs) = refl
with_more x t bs failed = refl
with_more x t bs unsupported = refl

-- The run, pair by pair

pub run_end : (k : ℕ) → 0 < k → run k [] ≡ (solved [], 0)
unfolding run
run_end zero h = absurd (omega arith)
run_end (suc k) h = refl

pub run_step : (k : ℕ) (l r : Tree) (ps : List Pair) → 0 < k → run k ((l, r) ∷ ps) ≡ after (step l r ps) (λ qs. run (k - 1) qs)
unfolding run
run_step zero l r ps h = absurd (omega arith)
run_step (suc k) l r ps h = let e : k ≡ suc k - 1 = omega arith in ap (λ (m : ℕ). after (step l r ps) (λ qs. run m qs)) e

pub run_spent : (k : ℕ) (ps : List Pair) → k ≡ 0 → run k ps ≡ (unsupported, 0)
unfolding run
run_spent zero ps h = refl
run_spent (suc k) ps h = absurd (omega arith)

-- the answer after a run: its bindings composed
pub finished : (k : ℕ) (ps : List Pair) (a : Answer) → run k ps ≡ a → unify k ps ≡ (finish a.0, a.1)
unfolding unify
finished k ps a e = ap (λ (a : Answer). (finish a.0, a.1)) e
