-- A computed test of every number below a bound, and what it says of each.
use Prim.Native.Nat.{ℕ, zero, suc, ◌<◌}
use mathlib.Core.Path.{◌≡◌, refl, sym, ap, ◌∙◌}
use mathlib.Core.Bool.{Bool, true, false, ◌&&◌, true≢false}
use mathlib.Core.Logic.{◌⊎◌, inl, inr}
use native.Mathlib.Omega.{arith}
use native.Mathlib.Decide.{dec_lt}

-- a test of every number below n
unfoldable pub every_below : ℕ → (ℕ → Bool) → Bool
every_below zero p = true
every_below (suc n) p = p n && every_below n p

pub below_holds : (n : ℕ) (p : ℕ → Bool) → every_below n p ≡ true → (k : ℕ) → k < n → p k ≡ true
unfolding every_below
below_holds zero p e k l = absurd (omega arith)
below_holds (suc n) p e k l = go (p n) refl e (below_holds n p)
  where
    at : (b : Bool) → p n ≡ b → b ≡ true → (k < n) ⊎ (k ≡ n) → (k < n → p k ≡ true) → p k ≡ true
    at b f g (inl q) r = r q
    at b f g (inr q) r = ap p q ∙ f ∙ g

    go : (b : Bool) → p n ≡ b → (b && every_below n p) ≡ true → (every_below n p ≡ true → (k : ℕ) → k < n → p k ≡ true) → p k ≡ true
    go true f g r = at true f refl (elim (dec_lt k n) [ yes q ↦ inl q | no q ↦ inr (omega arith) ]) (r g k)
    go false f g r = absurd (true≢false (sym g))

-- two tests say the same
unfoldable pub agree : Bool → Bool → Bool
agree true b = b
agree false true = false
agree false false = true

pub agreeing : (a b : Bool) → agree a b ≡ true → a ≡ b
unfolding agree
agreeing true b e = sym e
agreeing false true e = absurd (true≢false (sym e))
agreeing false false e = refl
