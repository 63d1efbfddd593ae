-- Trees as reading builds them: their parts, that Ac equality keeps them, and that tidy trees are such, so that the test of Ac
-- equality decides it on them.
use mathlib.Core.Path.{◌≡◌, refl, ◌∙◌, ap}
use mathlib.Core.Bool.{Bool, true, false, ◌||◌}
use Prim.Native.Nat.{ℕ}
use native.Mathlib.Omega.{arith}
use Rattle.rules.specs.Bytes.{Text, same}
use Rattle.rules.specs.Names.{variable_token, letter_name}
use Rattle.rules.specs.Tree.{Tree, variable, atom, apply, Trees, none, more, count, tamtplus, plus}
use Rattle.rules.specs.Sums.{equivalent}
use Rattle.rules.specs.Equality.{Ac, reflexive, symmetric, transitive, congruent, swap, regroup, ACs, nil, both}
use Rattle.rules.specs.Tidy.{Built, a_variable, an_atom, a_leaf, a_list, a_sum, Builts, Arity, Tidy, Tidies}
use Rattle.laws.proofs.Basics.Tests.{same_eq}
use Rattle.laws.proofs.Equality.Canonical.{equivalent_sound}

-- Parts of what is built

pub built_first : {t : Tree} {ts : Trees} → Builts (more t ts) → Built t
built_first (Builts.both b bs) = b

pub built_rest : {t : Tree} {ts : Trees} → Builts (more t ts) → Builts ts
built_rest (Builts.both b bs) = bs

pub built_children : {f : Text} {ts : Trees} → Built (apply f ts) → Builts ts
built_children (a_leaf w) = Builts.nil
built_children (a_list w l s b bs) = Builts.both b bs
built_children (a_sum a b) = Builts.both a (Builts.both b Builts.nil)

-- as many children, and the second built: under the same name they build a tree
pub data Alike : Trees → Trees → Type 0 where
  no_more : Alike none none
  one_more : {t u : Tree} {ts us : Trees} → Built u → Alike ts us → Alike (more t ts) (more u us)

pub builts : {ts us : Trees} → Alike ts us → Builts us
builts no_more = Builts.nil
builts (one_more b a) = Builts.both b (builts a)

pub rebuilt : {f : Text} {ts us : Trees} → Built (apply f ts) → Alike ts us → Built (apply f us)
rebuilt (a_leaf w) no_more = a_leaf w
rebuilt (a_list w l s b bs) (one_more u a) = a_list w l s u (builts a)
rebuilt (a_sum a b) (one_more u (one_more v no_more)) = a_sum u v

pub alike_self : {ts : Trees} → Builts ts → Alike ts ts
alike_self Builts.nil = no_more
alike_self (Builts.both b bs) = one_more b (alike_self bs)

-- Ac equality keeps what is built

sum_swapped : {a b : Tree} → Built (plus a b) → Built (plus b a)
sum_swapped h = let c = built_children h in a_sum (built_first (built_rest c)) (built_first c)

regrouped_right : {a b c : Tree} → Built (plus a (plus b c)) → Built (plus (plus a b) c)
regrouped_right h =
    let d = built_children h in
    let e = built_children (built_first (built_rest d)) in
    a_sum (a_sum (built_first d) (built_first e)) (built_first (built_rest e))

regrouped_left : {a b c : Tree} → Built (plus (plus a b) c) → Built (plus a (plus b c))
regrouped_left h =
    let d = built_children h in
    let e = built_children (built_first d) in
    a_sum (built_first e) (a_sum (built_first (built_rest e)) (built_first (built_rest d)))

mutual
  kept_both : {t u : Tree} → Ac t u → (Built t → Built u) × (Built u → Built t)
  kept_both reflexive = (λ h. h, λ h. h)
  kept_both (symmetric e) = let (f, g) = kept_both e in (g, f)
  kept_both (transitive e d) = let (f, g) = kept_both e in let (h, k) = kept_both d in (λ b. h (f b), λ b. g (k b))
  kept_both (congruent e) = let (f, g) = alike_both e in (λ b. rebuilt b (f (built_children b)), λ b. rebuilt b (g (built_children b)))
  kept_both swap = (sum_swapped, sum_swapped)
  kept_both regroup = (regrouped_right, regrouped_left)

  alike_both : {ts us : Trees} → ACs ts us → (Builts ts → Alike ts us) × (Builts us → Alike us ts)
  alike_both nil = (λ b. no_more, λ b. no_more)
  alike_both (both e d) =
      let (f, g) = kept_both e in
      let (h, k) = alike_both d in
      (λ b. one_more (f (built_first b)) (h (built_rest b)), λ b. one_more (g (built_first b)) (k (built_rest b)))

pub built_kept : {t u : Tree} → Ac t u → Built t → Built u
built_kept e = (kept_both e).0

-- Tidy trees

module _ (arity : Text → ℕ) (counts : Arity arity) where
  list_built : (f : Text) (t : Tree) (ts : Trees) → Tidy arity (apply f (more t ts)) → Built t → Builts ts → Built (apply f (more t ts))
  list_built f t ts d h hs = go (same f tamtplus) refl
    where
      -- a sum has two arguments
      sum_built : (us : Trees) → f ≡ tamtplus → count (more t us) ≡ arity f → Builts us → Built (apply f (more t us))
      sum_built none e c k = absurd (let z = c ∙ ap arity e ∙ counts.sums in omega arith)
      sum_built (more u none) e c (Builts.both k l) = rw e (a_sum h k)
      sum_built (more u (more v us)) e c k = absurd (let z = c ∙ ap arity e ∙ counts.sums in omega arith)

      no_letter : (b : Bool) → letter_name f ≡ b → letter_name f ≡ false
      no_letter true e = absurd (let k = d.0 in let l = counts.letters f e in omega arith)
      no_letter false e = e

      go : (b : Bool) → same f tamtplus ≡ b → Built (apply f (more t ts))
      go true e = sum_built ts (same_eq f tamtplus e) d.0 hs
      go false e = a_list (ap (λ (b : Bool). b || variable_token f) d.1) (no_letter (letter_name f) refl) e h hs

  apply_built : (f : Text) (ts : Trees) → Tidy arity (apply f ts) → Builts ts → Built (apply f ts)
  apply_built f none d k = a_leaf d.1
  apply_built f (more t ts) d (Builts.both h hs) = list_built f t ts d h hs

  mutual
    pub tidy_built : (t : Tree) → Tidy arity t → Built t
    tidy_built (variable x) d = a_variable d.2
    tidy_built (atom c n) d = an_atom d.0 d.1
    tidy_built (apply f ts) d = apply_built f ts d (tidies_built ts d.2)

    tidies_built : (ts : Trees) → Tidies arity ts → Builts ts
    tidies_built none d = Builts.nil
    tidies_built (more t ts) d = Builts.both (tidy_built t d.0) (tidies_built ts d.1)

  pub tidy_sound : {t u : Tree} → Tidy arity t → Tidy arity u → equivalent t u ≡ true → Ac t u
  tidy_sound {t} {u} dt du e = equivalent_sound (tidy_built t dt) (tidy_built u du) e
