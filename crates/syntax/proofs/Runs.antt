-- The run in front of a text is the front that passes the test.
use mathlib.Core.Path.{◌≡◌, refl, sym, ap, ◌∙◌}
use mathlib.Core.List.{List, [], ◌∷◌}
use mathlib.Core.Bool.{Bool, true, false, cond}
use Prim.Native.Nat.{ℕ, suc, ◌+◌, ◌<◌, ◌≤◌}
use native.Mathlib.Omega.{arith}
use lib.ListN.{length, get_or, drop, drop_of_length-le}
use Rattle.std.specs.List.{prefix_len}
use Rattle.std.proofs.lemmas.List.Sums.{prefix_len-le-length}
use Rattle.rules.specs.Tokens.{run_length}
use Rattle.text.proofs.Loops.{drop_next}

run_is : (p : ℕ → Bool) (s : List ℕ) → prefix_len p s ≡ run_length p s
unfolding run_length
run_is p [] = refl
run_is p (a ∷ s) = go (p a) (run_is p s)
  where
    go : (t : Bool) {n m : ℕ} → n ≡ m → cond t (1 + n) 0 ≡ elim t [ true ↦ suc m | false ↦ 0 ]
    go true e = omega arith
    go false e = refl

run_at : (p : ℕ → Bool) (a : ℕ) (s : List ℕ) (t : Bool) → t ≡ p a → run_length p (a ∷ s) ≡ elim t [ true ↦ suc (run_length p s) | false ↦ 0 ]
unfolding run_length
run_at p a s t e = ap (λ (t : Bool). elim t [ true ↦ suc (run_length p s) | false ↦ 0 ]) (sym e)

-- the run from a place within the text, by the byte there, and from one past its end
pub run_on : (p : ℕ → Bool) (s : List ℕ) (at : ℕ) → at < length s → true ≡ p (get_or s at 0) → run_length p (drop at s) ≡ suc (run_length p (drop (at + 1) s))
run_on p s at h e = ap (run_length p) (drop_next s at h) ∙ run_at p (get_or s at 0) (drop (at + 1) s) true e

pub run_stops : (p : ℕ → Bool) (s : List ℕ) (at : ℕ) → at < length s → false ≡ p (get_or s at 0) → run_length p (drop at s) ≡ 0
run_stops p s at h e = ap (run_length p) (drop_next s at h) ∙ run_at p (get_or s at 0) (drop (at + 1) s) false e

pub run_past : (p : ℕ → Bool) (s : List ℕ) (at : ℕ) → length s ≤ at → run_length p (drop at s) ≡ 0
unfolding run_length
run_past p s at h = rw (drop_of_length-le s h)

-- a run stays within the list
pub run_le : (p : ℕ → Bool) (s : List ℕ) → run_length p s ≤ length s
run_le p s = omega (arith, run_is p s, prefix_len-le-length p s)
