-- The run of unify: its bindings are triangular, and satisfied by exactly the well-sorted unifiers of the pairs.
--
use mathlib.Core.Path.{◌≡◌}
use mathlib.Core.List.{List, [], ◌∷◌}
use mathlib.Core.Logic.{◌↔◌}
use Prim.Native.Nat.{ℕ, zero, suc}
use Rattle.rules.specs.Bytes.{Text}
use Rattle.rules.specs.Tree.{Tree}
use Rattle.rules.specs.Substitution.{Substitution, substitute, Binding, Pair}
use Rattle.rules.specs.Equality.{Ac}
use Rattle.rules.specs.Solving.{Step, goes_on, bind, fails, unknown, step, Verdict, solved, failed, unsupported, Answer, with_binding, after, run}
use Rattle.rules.specs.Tidy.{Arity, TidyPairs}
use Rattle.rules.specs.Meaning.{WellSorted, Unifier, Free}
use Rattle.laws.proofs.Solving.Substituting.{FreePairs}
use Rattle.laws.proofs.Solving.Binding.{GoodBinding}
use Rattle.laws.proofs.Solving.Stepping.{Continues, Binds, StepMeans, step_means}

-- the variable is neither key nor in a value
abbrev pub FreeBindings : Text → List Binding → Type 0
FreeBindings y [] = Unit {0}
FreeBindings y (b ∷ bs) = (b.0 ≡ y → ⊥) × Free y b.1 × FreeBindings y bs

-- no key is in its own value or in a later binding
abbrev pub Triangular : (Text → ℕ) → List Binding → Type 0
Triangular arity [] = Unit {0}
Triangular arity (b ∷ bs) = GoodBinding arity b.0 b.1 × Free b.0 b.1 × FreeBindings b.0 bs × Triangular arity bs

-- the substitution makes each key equal to its value
abbrev pub Satisfies : Substitution → List Binding → Type 0
Satisfies σ [] = Unit {0}
Satisfies σ (b ∷ bs) = Ac (σ b.0) (substitute σ b.1) × Satisfies σ bs

pub record Runs (arity : Text → ℕ) (ps : List Pair) (bs : List Binding) : Type 0 where
  pub triangular : Triangular arity bs
  pub free : (y : Text) → FreePairs y ps → FreeBindings y bs
  pub unifiers : (σ : Substitution) → WellSorted arity σ → Unifier σ ps ↔ Satisfies σ bs

abbrev pub RunMeans : (Text → ℕ) → List Pair → Verdict → Type 0
RunMeans arity ps (solved bs) = Runs arity ps bs
RunMeans arity ps failed = (σ : Substitution) → WellSorted arity σ → Unifier σ ps → ⊥
RunMeans arity ps unsupported = Unit {0}

module _ (arity : Text → ℕ) (counts : Arity arity) where
  next_means : (p : Pair) (ps qs : List Pair) (v : Verdict) → Continues arity p.0 p.1 ps qs → RunMeans arity qs v → RunMeans arity (p ∷ ps) v
  next_means p ps qs (solved bs) s m = record {
    triangular = m.triangular;
    free = λ y f. m.free y (s.free y f.0 f.1 f.2);
    unifiers = λ σ g. (λ u. (m.unifiers σ g).0 ((s.unifiers σ g).0 u), λ u. (s.unifiers σ g).1 ((m.unifiers σ g).1 u));
  }
  next_means p ps qs failed s m = λ σ g u. m σ g ((s.unifiers σ g).0 u)
  next_means p ps qs unsupported s m = tt

  bind_means : (p : Pair) (ps qs : List Pair) (x : Text) (t : Tree) (v : Verdict) → Binds arity p.0 p.1 ps x t qs → RunMeans arity qs v
      → RunMeans arity (p ∷ ps) (with_binding x t v)
  bind_means p ps qs x t (solved bs) s m = record {
    triangular = (s.good, s.unheld, m.free x s.gone, m.triangular);
    free = λ y f. let k = s.free y f.0 f.1 f.2 in (k.0, k.1, m.free y k.2);
    unifiers = λ σ g. (
      λ u. let k = (s.unifiers σ g).0 u in (k.0, (m.unifiers σ g).0 k.1),
      λ u. (s.unifiers σ g).1 (u.0, (m.unifiers σ g).1 u.1),
    );
  }
  bind_means p ps qs x t failed s m = λ σ g u. m σ g ((s.unifiers σ g).0 u).1
  bind_means p ps qs x t unsupported s m = tt

  after_means : (p : Pair) (ps : List Pair) (s : Step) (go : List Pair → Answer) → StepMeans arity p.0 p.1 ps s
      → ((qs : List Pair) → TidyPairs arity qs → RunMeans arity qs (go qs).0) → RunMeans arity (p ∷ ps) (after s go).0
  after_means p ps (goes_on qs) go s h = next_means p ps qs (go qs).0 s (h qs s.tidy)
  after_means p ps (bind x v qs) go s h = bind_means p ps qs x v (go qs).0 s (h qs s.tidy)
  after_means p ps fails go s h = λ σ g u. s σ g u.0
  after_means p ps unknown go s h = tt

  pub run_means : (k : ℕ) (ps : List Pair) → TidyPairs arity ps → RunMeans arity ps (run k ps).0
  unfolding run
  run_means zero ps d = tt
  run_means (suc k) [] d = record { triangular = tt; free = λ y f. tt; unifiers = λ σ g. (λ u. tt, λ u. tt) }
  run_means (suc k) (p ∷ ps) d =
      after_means p ps (step p.0 p.1 ps) (λ qs. run k qs) (step_means arity counts p.0 p.1 ps d.0 d.1 d.2) (λ qs dq. run_means k qs dq)
