-- Tests that all bytes of a text pass.
use mathlib.Core.Path.{◌≡◌, refl, sym, ◌∙◌, ap}
use mathlib.Core.Bool.{Bool, true, false, ◌&&◌, true≢false}
use mathlib.Core.List.{[], ◌∷◌, ◌++◌}
use Prim.Native.Nat.{ℕ, zero, suc}
use lib.Dec.{eqb}
use lib.ListN.{drop}
use Rattle.rules.specs.Bytes.{Text}
use Rattle.rules.specs.Names.{all}
use Rattle.laws.proofs.Basics.Tests.{and_left, and_right, and_both, eqb_differs}

-- a byte that passes a test is none that fails it
pub not_passed : (p : ℕ → Bool) (x y : ℕ) → p x ≡ true → p y ≡ false → ¬ (x ≡ y)
not_passed p x y h k e = true≢false (sym h ∙ ap p e ∙ k)

pub not_byte : (p : ℕ → Bool) (c : ℕ) → p c ≡ false → (x : ℕ) → p x ≡ true → eqb x c ≡ false
not_byte p c k x h = eqb_differs x c (not_passed p x c h k)

pub all_append : (p : ℕ → Bool) (s r : Text) → all p (s ++ r) ≡ (all p s && all p r)
unfolding all
all_append p [] r = refl
all_append p (b ∷ s) r = ap (λ (c : Bool). p b && c) (all_append p s r) ∙ grouped (p b) (all p s) (all p r)
  where
    grouped : (x y z : Bool) → (x && (y && z)) ≡ ((x && y) && z)
    grouped true y z = refl
    grouped false y z = refl

module _ (p : ℕ → Bool) where
  pub all_both : (s r : Text) → all p s ≡ true → all p r ≡ true → all p (s ++ r) ≡ true
  all_both s r h k = all_append p s r ∙ and_both (all p s) (all p r) h k

  -- one more in front
  pub all_more : (b : ℕ) (s : Text) → p b ≡ true → all p s ≡ true → all p (b ∷ s) ≡ true
  unfolding all
  all_more b s = and_both (p b) (all p s)

  pub all_drop : (n : ℕ) (s : Text) → all p s ≡ true → all p (drop n s) ≡ true
  unfolding all
  all_drop zero s h = h
  all_drop (suc n) [] h = refl
  all_drop (suc n) (b ∷ s) h = all_drop n s (and_right (p b) (all p s) h)

pub all_weaker : (p q : ℕ → Bool) → ((x : ℕ) → p x ≡ true → q x ≡ true) → (s : Text) → all p s ≡ true → all q s ≡ true
unfolding all
all_weaker p q f [] e = refl
all_weaker p q f (b ∷ s) e = and_both (q b) (all q s) (f b (and_left (p b) (all p s) e)) (all_weaker p q f s (and_right (p b) (all p s) e))
