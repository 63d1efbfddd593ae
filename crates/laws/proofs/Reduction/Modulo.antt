-- The reduced form of a built tree, up to Ac equality: no AC-equal tree takes a step, and steps up to Ac equality reach no other tree
-- that takes none.
use mathlib.Core.Path.{◌≡◌, refl, sym, ◌∙◌}
use Prim.Native.Nat.{◌≤◌, ◌<◌}
use native.Mathlib.Omega.{arith}
use Rattle.rules.specs.Tree.{Tree, Trees, size, sizes}
use Rattle.rules.specs.Tidy.{Built}
use Rattle.rules.specs.Equality.{Ac, reflexive, transitive}
use Rattle.rules.specs.declared.Rule.{Rule}
use Rattle.rules.specs.Reduction.{normalize}
use Rattle.rules.specs.Rewriting.{Fires, takes_first, takes_second, flips_a, flips_b, opens_senc, opens_kem, Rewrites, here, inside, RewritesIn, first, later, Steps, done, then, StepsModulo, equal, step, Normal, NormalModulo, Reduced}
use Rattle.laws.proofs.Equality.Kept.{size_kept}
use Rattle.laws.proofs.Equality.Rebuilding.{of_path}
use Rattle.laws.proofs.Equality.Building.{built_kept}
use Rattle.laws.proofs.Reduction.Reaching.{built_normal, reached}
use Rattle.laws.proofs.Reduction.Normality.{normal}
use Rattle.laws.proofs.Reduction.Unique.{normalize_ac, step_same, step_ac, built_step, still}

-- A step makes a tree smaller

fires_less : {r : Rule} {t u : Tree} → Fires r t u → size u < size t
unfolding size
fires_less (takes_first ma mb) = omega arith
fires_less (takes_second ma mb) = omega arith
fires_less flips_a = omega arith
fires_less flips_b = omega arith
fires_less (opens_senc p k e) = omega arith
fires_less (opens_kem p k e) = omega arith

mutual
  unfolding size

  step_less : {t u : Tree} → Rewrites t u → size u < size t
  step_less (here φ) = fires_less φ
  step_less (inside r) = let h = step_in_less r in omega arith

  step_in_less : {ts us : Trees} → RewritesIn ts us → sizes us < sizes ts
  step_in_less (first r) = let h = step_less r in omega arith
  step_in_less (later r) = let h = step_in_less r in omega arith

steps_less : {t u : Tree} → Steps t u → size u ≤ size t
steps_less done = omega arith
steps_less (then r s) = let h = step_less r in let k = steps_less s in omega arith

-- Steps up to Ac equality

modulo_ac : {t u : Tree} → StepsModulo t u → Ac (normalize t) (normalize u)
modulo_ac (equal e) = normalize_ac e
modulo_ac (step e r s) = transitive (normalize_ac e) (transitive (step_ac r) (modulo_ac s))

modulo_built : {t u : Tree} → StepsModulo t u → Built t → Built u
modulo_built (equal e) b = built_kept e b
modulo_built (step e r s) b = modulo_built s (built_step r (built_kept e b))

-- if v, Ac equal to a normal tree t, stepped to w, then t would be Ac equal to the reduced form of w, which is smaller than v
normal_modulo : (t : Tree) → Built t → Normal t → NormalModulo t
normal_modulo t b n v e w r =
    let same_size = size_kept e in
    let less = step_less r in
    let no_larger = steps_less (reached w (built_step r (built_kept e b))) in
    let back : Ac t (normalize w) = transitive (of_path (sym (still t b n))) (transitive (normalize_ac e) (step_ac r)) in
    let its_size = size_kept back in
    omega arith

pub reduced : (t : Tree) → Built t → Reduced t (normalize t)
reduced t b = record {
  by_steps = reached t b;
  to_normal = normal_modulo (normalize t) (built_normal t b) (normal t);
  only = λ v s n. transitive (modulo_ac s) (of_path (still v (modulo_built s b) n));
}

-- Plain steps reach no other tree that takes none

steps_same : {t u : Tree} → Steps t u → normalize t ≡ normalize u
steps_same done = refl
steps_same (then r s) = step_same r ∙ steps_same s

steps_built : {t u : Tree} → Steps t u → Built t → Built u
steps_built done b = b
steps_built (then r s) b = steps_built s (built_step r b)

pub reduced_only : {t u : Tree} → Built t → Reduced t u → u ≡ normalize t
reduced_only {t} {u} b r = sym (steps_same r.by_steps ∙ still u (steps_built r.by_steps b) (r.to_normal u reflexive))
