-- What one scheme decides: its instance once it is solved, and its run in a part of the work area.
use Prim.Native.Nat.{ℕ, ◌+◌, ◌*◌, ◌<◌, ◌≤◌}
use mathlib.Core.Path.{◌≡◌, refl, ap}
use mathlib.Core.Bool.{Bool, true, false, cond}
use mathlib.Core.List.{List, [], ◌∷◌}
use Rattle.std.specs.Prelude.{Some, None}
use lib.Dec.{leb}
use lib.ListN.{length}
use native.Mathlib.Omega.{arith}
use Rattle.rules.specs.Bytes.{Text}
use Rattle.rules.specs.Maybe.{◌>>=◌, guard}
use Rattle.rules.specs.Tree.{Tree, size}
use Rattle.rules.specs.Substitution.{Binding, Pair, instantiate, size_pairs}
use Rattle.rules.specs.Sums.{equivalent}
use Rattle.rules.specs.Reduction.{normalize}
use Rattle.rules.specs.Solving.{unify}
use Rattle.rules.specs.Variants.{Variant, instance_of, generalized}
use Rattle.laws.specs.Schemes.{pending, settled, judge_tests, judge_instance, judge}
use Rattle.laws.specs.Memory.{OverPairs}
use Rattle.laws.proofs.Basics.Tests.{true_leb, false_leb, leb_true}
use Rattle.laws.proofs.Solving.UnifyFuel.{unify_enough}
use Rattle.laws.proofs.Sheets.BuiltRun.{BuiltPairs}
use Rattle.elimination.specs.Stack.{FitPairs}
use Rattle.complete.specs.Judging.{fuel_for}

-- ---- the instance of a solved scheme

module _ (xs : List Text) (ms : List Variant) (bs : List Binding) (value : Tree) where
  pub judge_over : 4096 < size (instantiate bs value) → judge xs ms bs value pending ≡ settled None
  unfolding judge judge_instance instance_of
  judge_over h = ap (λ (b : Bool). judge_instance xs ms bs (guard b >>= λ _. Some (instantiate bs value))) (false_leb (size (instantiate bs value)) 4096 h)

  pub judge_there : size (instantiate bs value) ≤ 4096
      → judge xs ms bs value pending ≡ judge_tests (equivalent (instantiate bs value) (normalize (instantiate bs value))) (generalized xs ms bs (instantiate bs value))
  unfolding judge judge_instance instance_of
  judge_there h = ap (λ (b : Bool). judge_instance xs ms bs (guard b >>= λ _. Some (instantiate bs value))) (true_leb (size (instantiate bs value)) 4096 h)

-- ---- the run over the system of a scheme

pub fit_built : (ps : List Pair) → FitPairs ps → BuiltPairs ps
fit_built [] h = tt
fit_built (p ∷ ps) h = (h.0.built, h.1.built, fit_built ps h.2)

pub enough_unify : (ns : List Text) (ps : List Pair) (nodes named : ℕ) → OverPairs ns ps → BuiltPairs ps → nodes ≡ size_pairs ps → length ns ≤ named → unify (fuel_for nodes named) ps ≡ unify 65536 ps
unfolding fuel_for
enough_unify ns ps nodes named o b e l = go (leb (nodes + 4096 * named + 1) 65535) refl
  where
    go : (c : Bool) → leb (nodes + 4096 * named + 1) 65535 ≡ c → unify (cond c (nodes + 4096 * named + 1) 65536) ps ≡ unify 65536 ps
    go true f = let h = leb_true (nodes + 4096 * named + 1) 65535 f in unify_enough (nodes + 4096 * named + 1) 65536 ns ps o b (omega arith) (omega arith)
    go false f = refl
