-- The rules of matching keep the well-sorted matchers of tidy pairs.
use mathlib.Core.Path.{subst}
use mathlib.Core.List.{List, ◌∷◌}
use Prim.Native.Nat.{ℕ}
use Rattle.rules.specs.Bytes.{Text}
use Rattle.rules.specs.Tree.{Tree}
use Rattle.rules.specs.Substitution.{Binding, Pair}
use Rattle.rules.specs.Matching.{Move, onward, clash, beyond}
use Rattle.rules.specs.Tidy.{BuiltBindings, Arity, TidyPairs}
use Rattle.rules.specs.Meaning.{Distinct}
use Rattle.rules.specs.Derivation.{GoodBindings, KeepsMatchers, Matches}
use Rattle.laws.proofs.Equality.Building.{tidy_built}
use Rattle.laws.proofs.Solving.Moving.{MoveMeans, move_means}
use Rattle.laws.proofs.Solving.Matching.{matcher_equates}
use Rattle.laws.proofs.Solving.MatchRules.{matches_only}

module _ (arity : Text → ℕ) (counts : Arity arity) where
  keeps : (t u : Tree) (ps : List Pair) (bs : List Binding) (m : Move) → MoveMeans arity t u ps bs m → KeepsMatchers arity t u ps bs m
  keeps t u ps bs (onward qs cs) a = λ σ w. (
    λ h. let e = (matcher_equates σ ((t, u) ∷ ps)).0 h.0 in let k = (a.matchers σ w).0 (e.0, e.1, h.1) in ((matcher_equates σ qs).1 k.0, k.1),
    λ h. let k = (a.matchers σ w).1 ((matcher_equates σ qs).0 h.0, h.1) in ((matcher_equates σ ((t, u) ∷ ps)).1 (k.0, k.1), k.2),
  )
  keeps t u ps bs clash a = λ σ w h g. a σ w ((matcher_equates σ ((t, u) ∷ ps)).0 h).0 g
  keeps t u ps bs beyond a = tt

  pub matches_keep : {t u : Tree} {ps : List Pair} {bs : List Binding} {m : Move} → TidyPairs arity ((t, u) ∷ ps) → BuiltBindings bs → GoodBindings arity bs
      → Distinct bs → Matches t u ps bs m → KeepsMatchers arity t u ps bs m
  matches_keep {t} {u} {ps} {bs} {m} d b g n i =
      let e = matches_only (tidy_built arity counts t d.0) (tidy_built arity counts u d.1) b i in
      keeps t u ps bs m (subst (MoveMeans arity t u ps bs) e (move_means arity counts t u ps bs d.0 d.1 d.2 g n))
