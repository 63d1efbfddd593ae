-- Cancelling the summands of two sums keeps the well-sorted substitutions that make them equal.
use mathlib.Core.Path.{◌≡◌, refl, ap, sym, subst, ◌∙◌}
use mathlib.Core.Bool.{Bool, true, false}
use mathlib.Core.List.{List, [], ◌∷◌}
use mathlib.Core.Logic.{◌↔◌}
use Rattle.std.specs.Prelude.{Option, Some, None}
use Prim.Native.Nat.{ℕ, ◌+◌}
use native.Mathlib.Omega.{arith}
use Rattle.rules.specs.Bytes.{Text}
use Rattle.rules.specs.Tree.{Tree}
use Rattle.rules.specs.Substitution.{Substitution, substitute}
use Rattle.rules.specs.Sums.{summands, rebuild}
use Rattle.rules.specs.Equality.{Ac}
use Rattle.rules.specs.Solving.{keep, remove_at, remove, cancel_at, cancel, Rest, emptied, mismatch, stuck, equation, remainder, cancel_sums}
use Rattle.rules.specs.Tidy.{Arity, Tidy}
use Rattle.rules.specs.Meaning.{WellSorted, Free}
use Rattle.laws.proofs.Equality.Building.{tidy_built}
use Rattle.laws.proofs.Equality.Bags.{weight, weight_kept, weight_ac}
use Rattle.laws.proofs.Sorts.Instances.{substitute_tidy}
use Rattle.laws.proofs.Equality.Summands.{AllOf, summands_free, free_summands, rebuild_free, weigh, weigh_rebuild, summands_tidy, rebuild_tidy, weigh_summands, weigh_some}

-- the equation that is left of two sums; the right side is put through `other σ`, which is σ for unify and the substitution
-- that changes nothing for match
pub record Leaves (arity : Text → ℕ) (other : Substitution → Substitution) (l r a b : Tree) : Type 0 where
  pub tidy_left : Tidy arity a
  pub tidy_right : Tidy arity b
  pub free : (y : Text) → Free y l → Free y r → Free y a × Free y b
  pub equates : (σ : Substitution) → WellSorted arity σ → Ac (substitute σ l) (substitute (other σ) r) ↔ Ac (substitute σ a) (substitute (other σ) b)

-- what the rest of two sums says of the substitutions that make them equal
abbrev pub RestMeans : (Text → ℕ) → (Substitution → Substitution) → Tree → Tree → Rest → Type 0
RestMeans arity other l r emptied = (σ : Substitution) → WellSorted arity σ → Ac (substitute σ l) (substitute (other σ) r)
RestMeans arity other l r mismatch = (σ : Substitution) → WellSorted arity σ → Ac (substitute σ l) (substitute (other σ) r) → ⊥
RestMeans arity other l r stuck = Unit {0}
RestMeans arity other l r (equation a b) = Leaves arity other l r a b

-- a variable of the left sum is in what is left, where only ground summands cancel
abbrev pub RestHolds : Tree → Rest → Type 0
RestHolds l emptied = (y : Text) → Free y l
RestHolds l mismatch = Unit {0}
RestHolds l stuck = Unit {0}
RestHolds l (equation a b) = (y : Text) → Free y a → Free y l

module _ (arity : Text → ℕ) (counts : Arity arity) (test : Tree → Tree → Bool) (other : Substitution → Substitution)
    (other_good : (σ : Substitution) → WellSorted arity σ → WellSorted arity (other σ))
    (passed : (σ : Substitution) → WellSorted arity σ → (t u : Tree) → Tidy arity t → Tidy arity u → test t u ≡ true → Ac (substitute σ t) (substitute (other σ) u)) where
  -- what `remove` leaves: a list with the others, lighter by the tree; and what the test says of the tree
  abbrev Removed : Tree → List Tree → Option (List Tree) → Type 1
  Removed t us None = Unit {1}
  Removed t us (Some vs) =
      ((P : Tree → Type 0) → AllOf P us → AllOf P vs)
      × ((σ : Substitution) → WellSorted arity σ → (w : Text) → weigh (other σ) w us ≡ weight w (substitute σ t) + weigh (other σ) w vs)
      × ((P : Tree → Type 0) → ((a b : Tree) → test a b ≡ true → P a) → P t)

  removed_keep : (t u : Tree) (us : List Tree) (r : Option (List Tree)) → Removed t us r → Removed t (u ∷ us) (keep u r)
  unfolding weigh
  removed_keep t u us None h = tt
  removed_keep t u us (Some vs) h = (λ P d. (d.0, h.0 P d.1), (λ σ g w. let k = h.1 σ g w in omega arith), h.2)

  removed : (t : Tree) (us : List Tree) → Tidy arity t → AllOf (Tidy arity) us → Removed t us (remove test t us)
  unfolding remove weigh
  removed t [] dt d = tt
  removed t (u ∷ us) dt d = go (test t u) refl (removed t us dt d.1)
    where
      go : (b : Bool) → test t u ≡ b → Removed t us (remove test t us) → Removed t (u ∷ us) (remove_at b u us (remove test t us))
      go true e h = (λ P p. p.1, (λ σ g w. let k = weight_kept w (passed σ g t u dt d.0 e) in omega arith), λ P q. q t u e)
      go false e h = removed_keep t u us (remove test t us) h

  -- what `cancel` leaves of the two lists
  record Cancelled (ts us : List Tree) (c : List Tree × List Tree) : Type 1 where
    lefts : (P : Tree → Type 0) → AllOf P ts → AllOf P c.0
    rights : (P : Tree → Type 0) → AllOf P us → AllOf P c.1
    balance : (σ : Substitution) → WellSorted arity σ → (w : Text) → weigh σ w ts + weigh (other σ) w c.1 ≡ weigh (other σ) w us + weigh σ w c.0
    came : (P : Tree → Type 0) → ((t u : Tree) → test t u ≡ true → P t) → AllOf P c.0 → AllOf P ts

  cancelled : (ts us : List Tree) → AllOf (Tidy arity) ts → AllOf (Tidy arity) us → Cancelled ts us (cancel test ts us)
  unfolding cancel weigh
  cancelled [] us dt du = record { lefts = λ P p. p; rights = λ P p. p; balance = λ σ g w. omega arith; came = λ P h p. p }
  cancelled (t ∷ ts) us dt du = go (remove test t us) (removed t us dt.0 du) (λ vs dv. cancelled ts vs dt.1 dv)
    where
      go : (r : Option (List Tree)) → Removed t us r → ((vs : List Tree) → AllOf (Tidy arity) vs → Cancelled ts vs (cancel test ts vs))
          → Cancelled (t ∷ ts) us (cancel_at r t (λ vs. cancel test ts vs) us)
      go None h k = let c = k us du in record {
        lefts = λ P p. (p.0, c.lefts P p.1);
        rights = c.rights;
        balance = λ σ g w. let e = c.balance σ g w in omega arith;
        came = λ P q p. (p.0, c.came P q p.1);
      }
      go (Some vs) h k = let c = k vs (h.0 (Tidy arity) du) in record {
        lefts = λ P p. c.lefts P p.1;
        rights = λ P p. c.rights P (h.0 P p);
        balance = λ σ g w. let e = c.balance σ g w in let l = h.1 σ g w in omega arith;
        came = λ P q p. (h.2 P q, c.came P q p);
      }

  -- instances of tidy trees with the same weights
  instances_ac : (σ : Substitution) → WellSorted arity σ → (t u : Tree) → Tidy arity t → Tidy arity u
      → ((w : Text) → weight w (substitute σ t) ≡ weight w (substitute (other σ) u)) → Ac (substitute σ t) (substitute (other σ) u)
  instances_ac σ g t u dt du h = weight_ac
      (tidy_built arity counts (substitute σ t) (substitute_tidy arity counts σ g t dt))
      (tidy_built arity counts (substitute (other σ) u) (substitute_tidy arity counts (other σ) (other_good σ g) u du)) h

  module _ (l r : Tree) (dl : Tidy arity l) (dr : Tidy arity r) where
    all_left : AllOf (Tidy arity) (summands l)
    all_left = summands_tidy arity counts l dl

    all_right : AllOf (Tidy arity) (summands r)
    all_right = summands_tidy arity counts r dr

    module _ (ks os : List Tree) (c : Cancelled (summands l) (summands r) (ks, os)) where
      forth : (σ : Substitution) → WellSorted arity σ → Ac (substitute σ l) (substitute (other σ) r) → (w : Text) → weigh σ w ks ≡ weigh (other σ) w os
      forth σ g h w =
          let p = weight_kept w h in
          let q = weigh_summands arity counts σ w l dl in
          let s = weigh_summands arity counts (other σ) w r dr in
          let b = c.balance σ g w in
          omega arith

      back : (σ : Substitution) → WellSorted arity σ → ((w : Text) → weigh σ w ks ≡ weigh (other σ) w os) → Ac (substitute σ l) (substitute (other σ) r)
      back σ g h = instances_ac σ g l r dl dr (λ w.
          let p = h w in
          let q = weigh_summands arity counts σ w l dl in
          let s = weigh_summands arity counts (other σ) w r dr in
          let b = c.balance σ g w in
          omega arith)

      -- the equation that is left, where neither side is empty
      left_over : (k : Tree) (ls : List Tree) → ks ≡ k ∷ ls → (o : Tree) (ps : List Tree) → os ≡ o ∷ ps
          → RestMeans arity other l r (equation (rebuild k ls) (rebuild o ps))
      left_over k ls ek o ps eo = record {
        tidy_left = da;
        tidy_right = db;
        free = λ y fl fr. (
          rebuild_free y k ls (subst (AllOf (Free y)) ek (c.lefts (Free y) (summands_free y l fl))),
          rebuild_free y o ps (subst (AllOf (Free y)) eo (c.rights (Free y) (summands_free y r fr))),
        );
        equates = λ σ g. (
          λ h. instances_ac σ g (rebuild k ls) (rebuild o ps) da db (λ w.
              weigh_rebuild σ w k ls ∙ sym (ap (weigh σ w) ek) ∙ forth σ g h w ∙ ap (weigh (other σ) w) eo ∙ sym (weigh_rebuild (other σ) w o ps)),
          λ h. back σ g (λ w.
              ap (weigh σ w) ek ∙ sym (weigh_rebuild σ w k ls) ∙ weight_kept w h ∙ weigh_rebuild (other σ) w o ps ∙ sym (ap (weigh (other σ) w) eo)),
        );
      }
        where
          da : Tidy arity (rebuild k ls)
          da = rebuild_tidy arity counts k ls (subst (AllOf (Tidy arity)) ek (c.lefts (Tidy arity) all_left))

          db : Tidy arity (rebuild o ps)
          db = rebuild_tidy arity counts o ps (subst (AllOf (Tidy arity)) eo (c.rights (Tidy arity) all_right))

    rest_means : (b : Bool) (ks os : List Tree) → Cancelled (summands l) (summands r) (ks, os) → RestMeans arity other l r (remainder b ks os)
    unfolding rebuild weigh
    rest_means b [] [] c = λ σ g. back [] [] c σ g (λ w. refl)
    rest_means b [] (o ∷ ps) c = λ σ g h.
        let z = weigh_some arity counts (other σ) (other_good σ g) o ps (c.rights (Tidy arity) all_right).0 in
        let e = forth [] (o ∷ ps) c σ g h z.0 in
        let k = z.1 in
        omega arith
    rest_means b (k ∷ ls) [] c = λ σ g h.
        let z = weigh_some arity counts σ g k ls (c.lefts (Tidy arity) all_left).0 in
        let e = forth (k ∷ ls) [] c σ g h z.0 in
        let j = z.1 in
        omega arith
    rest_means b (k ∷ []) (o ∷ ps) c = left_over (k ∷ []) (o ∷ ps) c k [] refl o ps refl
    rest_means true (k ∷ j ∷ ls) (o ∷ []) c = left_over (k ∷ j ∷ ls) (o ∷ []) c k (j ∷ ls) refl o [] refl
    rest_means false (k ∷ j ∷ ls) (o ∷ []) c = tt
    rest_means b (k ∷ j ∷ ls) (o ∷ p ∷ ps) c = tt

    pub cancel_means : (b : Bool) → RestMeans arity other l r (cancel_sums b test l r)
    unfolding cancel_sums
    cancel_means b =
        rest_means b (cancel test (summands l) (summands r)).0 (cancel test (summands l) (summands r)).1 (cancelled (summands l) (summands r) all_left all_right)

    module _ (grounded : (t u : Tree) → test t u ≡ true → (y : Text) → Free y t) where
      rest_holds : (ks os : List Tree) → Cancelled (summands l) (summands r) (ks, os) → RestHolds l (remainder false ks os)
      rest_holds [] [] c = λ y. free_summands y l (c.came (Free y) (λ t u e. grounded t u e y) tt)
      rest_holds [] (o ∷ ps) c = tt
      rest_holds (k ∷ ls) [] c = tt
      rest_holds (k ∷ []) (o ∷ ps) c = λ y f. free_summands y l (c.came (Free y) (λ t u e. grounded t u e y) (f, tt))
      rest_holds (k ∷ j ∷ ls) (o ∷ []) c = tt
      rest_holds (k ∷ j ∷ ls) (o ∷ p ∷ ps) c = tt

      pub cancel_holds : RestHolds l (cancel_sums false test l r)
      unfolding cancel_sums
      cancel_holds =
          rest_holds (cancel test (summands l) (summands r)).0 (cancel test (summands l) (summands r)).1 (cancelled (summands l) (summands r) all_left all_right)
