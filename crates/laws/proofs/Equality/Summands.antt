-- The summands of a tree: they are built or tidy where it is, hold its variables, and under a substitution weigh what it weighs.
use mathlib.Core.Path.{◌≡◌, refl, ap, sym, ◌∙◌}
use mathlib.Core.Bool.{Bool, true, false}
use mathlib.Core.List.{List, [], ◌∷◌, ◌++◌, append-nil}
use Prim.Native.Nat.{ℕ, ◌+◌, ◌<◌}
use native.Mathlib.Omega.{arith}
use Rattle.rules.specs.Bytes.{Text, same}
use Rattle.rules.specs.Names.{word}
use Rattle.rules.specs.Tree.{Tree, variable, atom, apply, Trees, none, more, tamtplus, plus}
use Rattle.rules.specs.Substitution.{Substitution, substitute, substitutes}
use Rattle.rules.specs.Sums.{unless_sum, summands, summands_of, rebuild}
use Rattle.rules.specs.Tidy.{Built, Builts, nil, both, Arity, Tidy, Tidies}
use Rattle.rules.specs.Meaning.{WellSorted, Free, Frees}
use Rattle.laws.proofs.Basics.Tests.{same_eq}
use Rattle.laws.proofs.Equality.Building.{built_children, tidy_built}
use Rattle.laws.proofs.Equality.Bags.{weight, weight_plus, weight_some}
use Rattle.laws.proofs.Sorts.Instances.{substitute_tidy}

abbrev pub AllOf : (Tree → Type 0) → List Tree → Type 0
AllOf P [] = Unit {0}
AllOf P (x ∷ xs) = P x × AllOf P xs

-- of every tree of a list of arguments
abbrev pub AllIn : (Tree → Type 0) → Trees → Type 0
AllIn P none = Unit {0}
AllIn P (more t ts) = P t × AllIn P ts

module _ (P : Tree → Type 0) where
  pub all_append : (xs ys : List Tree) → AllOf P xs → AllOf P ys → AllOf P (xs ++ ys)
  all_append [] ys p q = q
  all_append (x ∷ xs) ys p q = (p.0, all_append xs ys p.1 q)

  all_left : (xs ys : List Tree) → AllOf P (xs ++ ys) → AllOf P xs
  all_left [] ys p = tt
  all_left (x ∷ xs) ys p = (p.0, all_left xs ys p.1)

  all_right : (xs ys : List Tree) → AllOf P (xs ++ ys) → AllOf P ys
  all_right [] ys p = p
  all_right (x ∷ xs) ys p = all_right xs ys p.1

  pub all_unless : (b : Bool) (ts : List Tree) (t : Tree) → AllOf P ts → P t → AllOf P (unless_sum b ts t)
  all_unless true ts t p q = p
  all_unless false ts t p q = (q, tt)

  -- what goes from applications to their arguments goes to summands
  module _ (parts : (f : Text) (ts : Trees) → P (apply f ts) → AllIn P ts) where
    mutual
      unfolding summands

      pub summands_all : (t : Tree) → P t → AllOf P (summands t)
      summands_all (variable x) h = (h, tt)
      summands_all (atom c d) h = (h, tt)
      summands_all (apply f ts) h = all_unless (same f tamtplus) (summands_of ts) (apply f ts) (summands_of_all ts (parts f ts h)) h

      summands_of_all : (ts : Trees) → AllIn P ts → AllOf P (summands_of ts)
      summands_of_all none h = tt
      summands_of_all (more t ts) h = all_append (summands t) (summands_of ts) (summands_all t h.0) (summands_of_all ts h.1)

-- trees as reading builds them

abbrev pub BuiltList : List Tree → Type 0
BuiltList = AllOf Built

pub all_built : {ts : Trees} → Builts ts → AllIn Built ts
all_built nil = tt
all_built (both b bs) = (b, all_built bs)

pub summands_built : (t : Tree) → Built t → BuiltList (summands t)
summands_built = summands_all Built (λ f ts b. all_built (built_children b))

-- variables

module _ (y : Text) where
  all_free : (ts : Trees) → Frees y ts → AllIn (Free y) ts
  all_free none d = tt
  all_free (more t ts) d = (d.0, all_free ts d.1)

  pub summands_free : (t : Tree) → Free y t → AllOf (Free y) (summands t)
  summands_free = summands_all (Free y) (λ f ts d. all_free ts d)

  unless_free : (b : Bool) (us : List Tree) (f : Text) (ts : Trees) → (AllOf (Free y) us → Frees y ts) → AllOf (Free y) (unless_sum b us (apply f ts))
      → Frees y ts
  unless_free true us f ts h p = h p
  unless_free false us f ts h p = p.0

  mutual
    unfolding summands

    pub free_summands : (t : Tree) → AllOf (Free y) (summands t) → Free y t
    free_summands (variable x) d = d.0
    free_summands (atom c n) d = d.0
    free_summands (apply f ts) d = unless_free (same f tamtplus) (summands_of ts) f ts (λ k. free_summands_of ts k) d

    free_summands_of : (ts : Trees) → AllOf (Free y) (summands_of ts) → Frees y ts
    free_summands_of none d = tt
    free_summands_of (more t ts) d =
        (free_summands t (all_left (Free y) (summands t) (summands_of ts) d), free_summands_of ts (all_right (Free y) (summands t) (summands_of ts) d))

  pub rebuild_free : (a : Tree) (xs : List Tree) → AllOf (Free y) (a ∷ xs) → Free y (rebuild a xs)
  unfolding rebuild
  rebuild_free a [] d = d.0
  rebuild_free a (b ∷ bs) d = (d.0, (rebuild_free b bs d.1, tt))

-- weights under a substitution

unfoldable pub weigh : Substitution → Text → List Tree → ℕ
weigh σ w [] = 0
weigh σ w (x ∷ xs) = weight w (substitute σ x) + weigh σ w xs

weigh_append : (σ : Substitution) (w : Text) (xs ys : List Tree) → weigh σ w (xs ++ ys) ≡ weigh σ w xs + weigh σ w ys
unfolding weigh
weigh_append σ w [] ys = omega arith
weigh_append σ w (x ∷ xs) ys = let h = weigh_append σ w xs ys in omega arith

pub weigh_rebuild : (σ : Substitution) (w : Text) (a : Tree) (xs : List Tree) → weight w (substitute σ (rebuild a xs)) ≡ weigh σ w (a ∷ xs)
unfolding weigh substitute rebuild
weigh_rebuild σ w a [] = omega arith
weigh_rebuild σ w a (b ∷ bs) = let h = weigh_rebuild σ w b bs in let k = weight_plus w (substitute σ a) (substitute σ (rebuild b bs)) in omega arith

module _ (arity : Text → ℕ) (counts : Arity arity) where
  all_tidy : (ts : Trees) → Tidies arity ts → AllIn (Tidy arity) ts
  all_tidy none d = tt
  all_tidy (more t ts) d = (d.0, all_tidy ts d.1)

  pub summands_tidy : (t : Tree) → Tidy arity t → AllOf (Tidy arity) (summands t)
  summands_tidy = summands_all (Tidy arity) (λ f ts d. all_tidy ts d.2)

  plus_tidy : (a b : Tree) → Tidy arity a → Tidy arity b → Tidy arity (plus a b)
  unfolding word
  plus_tidy a b p q = (sym counts.sums, refl, (p, (q, tt)))

  pub rebuild_tidy : (a : Tree) (xs : List Tree) → AllOf (Tidy arity) (a ∷ xs) → Tidy arity (rebuild a xs)
  unfolding rebuild
  rebuild_tidy a [] d = d.0
  rebuild_tidy a (b ∷ bs) d = plus_tidy a (rebuild b bs) d.0 (rebuild_tidy b bs d.1)

  module _ (σ : Substitution) where
    module _ (w : Text) where
      abbrev Weighs : Tree → Type 0
      Weighs t = weight w (substitute σ t) ≡ weigh σ w (summands t)

      abbrev AllWeigh : Trees → Type 0
      AllWeigh none = Unit {0}
      AllWeigh (more t ts) = Weighs t × AllWeigh ts

      -- a sum has two arguments
      sum_weighs : (f : Text) → f ≡ tamtplus → (ts : Trees) → Tidy arity (apply f ts) → AllWeigh ts
          → weight w (apply f (substitutes σ ts)) ≡ weigh σ w (summands_of ts)
      unfolding substitute summands
      sum_weighs f e none d h = absurd (let z = d.0 ∙ ap arity e ∙ counts.sums in omega arith)
      sum_weighs f e (more a none) d h = absurd (let z = d.0 ∙ ap arity e ∙ counts.sums in omega arith)
      sum_weighs f e (more a (more b (more c cs))) d h = absurd (let z = d.0 ∙ ap arity e ∙ counts.sums in omega arith)
      sum_weighs f e (more a (more b none)) d h =
          let p = ap (λ (g : Text). weight w (apply g (more (substitute σ a) (more (substitute σ b) none)))) e in
          let q = weight_plus w (substitute σ a) (substitute σ b) in
          let r = weigh_append σ w (summands a) (summands b) in
          let s = ap (λ (l : List Tree). weigh σ w (summands a ++ l)) (append-nil (summands b)) in
          let i = h.0 in
          let j = h.1.0 in
          omega arith

      apply_weighs : (f : Text) (ts : Trees) → Tidy arity (apply f ts) → AllWeigh ts → Weighs (apply f ts)
      unfolding substitute summands weigh
      apply_weighs f ts d h = go (same f tamtplus) refl
        where
          go : (b : Bool) → same f tamtplus ≡ b → weight w (apply f (substitutes σ ts)) ≡ weigh σ w (unless_sum b (summands_of ts) (apply f ts))
          go true e = sum_weighs f (same_eq f tamtplus e) ts d h
          go false e = omega arith

      mutual
        unfolding substitute summands weigh

        pub weigh_summands : (t : Tree) → Tidy arity t → weight w (substitute σ t) ≡ weigh σ w (summands t)
        weigh_summands (variable x) d = omega arith
        weigh_summands (atom c n) d = omega arith
        weigh_summands (apply f ts) d = apply_weighs f ts d (all_weigh ts d.2)

        all_weigh : (ts : Trees) → Tidies arity ts → AllWeigh ts
        all_weigh none d = tt
        all_weigh (more t ts) d = (weigh_summands t d.0, all_weigh ts d.1)

    -- a list that is not empty weighs something
    pub weigh_some : WellSorted arity σ → (x : Tree) (xs : List Tree) → Tidy arity x → (w : Text) × (0 < weigh σ w (x ∷ xs))
    unfolding weigh
    weigh_some g x xs d =
        let k = weight_some (tidy_built arity counts (substitute σ x) (substitute_tidy arity counts σ g x d)) in let l = k.1 in (k.0, omega arith)
