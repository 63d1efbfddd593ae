-- The bytes of a variable, and its place.
use Prim.Native.Nat.{ℕ, ◌/◌, ◌%◌, ◌<◌}
use mathlib.Core.Path.{◌≡◌, sym, ap, subst, ◌∙◌}
use mathlib.Core.Bool.{true, false, ◌&&◌, ◌||◌, false≢true}
use mathlib.Core.List.{[], ◌∷◌}
use lib.Dec.{eqb}
use lib.ListN.{get_or, take, drop}
use native.Mathlib.Omega.{arith}
use native.Mathlib.Decide.{dec_lt}
use Rattle.rules.specs.Bytes.{Text}
use Rattle.rules.specs.Names.{digit, indexed, variable_token}
use Rattle.laws.proofs.Basics.Tests.{and_left, and_right}
use Rattle.text.specs.Places.{text_at}
use Rattle.variables.specs.Variables.{Variable}

-- the second byte of a variable is a digit
pub second_byte : (n : Text) → variable_token n ≡ true → get_or n 1 0 ≡ 40 → ⊥
unfolding variable_token digit
second_byte [] h e = false≢true h
second_byte (b ∷ []) h e = false≢true h
second_byte (b ∷ c ∷ n) h e =
    false≢true (and_left false (indexed n) (subst (λ (x : ℕ). (digit x && indexed n) ≡ true) e (and_right (eqb b 120 || eqb b 35 || eqb b 37) (digit c && indexed n) h)))

module _ (s : Text) (x : ℕ) (h : Variable s x) where
  pub place_some : 0 < x % 65536
  unfolding text_at variable_token
  place_some = elim (dec_lt 0 (x % 65536)) [
    | yes p ↦ p
    | no p ↦ (let e : x % 65536 ≡ 0 = omega arith in absurd (false≢true (sym (ap (λ (n : ℕ). variable_token (take n (drop (x / 65536) s))) e) ∙ h.token)))
  ]
