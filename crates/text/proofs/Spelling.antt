-- Whether a name is a text, by its length and its bytes.
use Prim.Native.Nat.{ℕ, suc, ◌<◌, ◌≤◌}
use mathlib.Core.Path.{◌≡◌, refl}
use mathlib.Core.Bool.{false}
use mathlib.Core.List.{[], ◌∷◌}
use native.Mathlib.Omega.{arith}
use native.Mathlib.Decide.{dec_lt, ℕ_discrete}
use lib.ListN.{length, get_or, drop, drop_of_length-le}
use lib.Seq.{drop-cons}
use borrow.Author.Tests.{eq-eqb, ne_eqb}
use Rattle.rules.specs.Bytes.{Text, same}

-- the bytes of a name from one on are a text
abbrev pub Reads : Text → ℕ → Text → Type 0
Reads n i [] = length n ≡ i
Reads n i (b ∷ m) = (get_or n i 0 ≡ b) × Reads n (suc i) m

reads_long : (n : Text) (i : ℕ) (m : Text) → Reads n i m → i ≤ length n
reads_long n i [] r = omega arith
reads_long n i (b ∷ m) r = let h = reads_long n (suc i) m r.1 in omega arith

reads_from : (n : Text) (i : ℕ) (m : Text) → Reads n i m → drop i n ≡ m
reads_from n i [] r = drop_of_length-le n (omega arith)
reads_from n i (b ∷ m) r = let h = reads_long n (suc i) m r.1 in rw (drop-cons n i 0 (omega arith), r.0, reads_from n (suc i) m r.1) refl

pub reads : (n m : Text) → Reads n 0 m → n ≡ m
reads n m r = reads_from n 0 m r

differs_from : (n : Text) (i : ℕ) (m : Text) → i ≤ length n → (Reads n i m → ⊥) → same (drop i n) m ≡ false
unfolding same
differs_from n i [] l h = let p : i < length n = omega arith in rw (drop-cons n i 0 p) refl
differs_from n i (b ∷ m) l h = elim (dec_lt i (length n)) [
  | yes p ↦ elim (ℕ_discrete (get_or n i 0) b) [
    | yes e ↦ rw (drop-cons n i 0 p, eq-eqb (get_or n i 0) b e) (differs_from n (suc i) m (omega arith) (λ r. h (e, r)))
    | no e ↦ rw (drop-cons n i 0 p, ne_eqb (get_or n i 0) b e) refl
  ]
  | no p ↦ rw (drop_of_length-le n {i = i} (omega arith)) refl
]

pub differs : (n m : Text) → (Reads n 0 m → ⊥) → same n m ≡ false
differs n m h = differs_from n 0 m (omega arith) h
