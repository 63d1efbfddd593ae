-- What a loop over a slice needs of the lists: the rest from i is the element at i and the rest from i + 1; so for tests of all
-- elements.
use mathlib.Core.Path.{◌≡◌, refl}
use mathlib.Core.List.{List, ◌∷◌}
use mathlib.Core.Bool.{Bool, true, false, cond, ◌&&◌}
use Prim.Native.Nat.{ℕ, ◌+◌, ◌<◌, ◌≤◌}
use native.Mathlib.Omega.{arith}
use native.Mathlib.Numerals.{add-one}
use lib.Dec.{eqb}
use lib.ListN.{length, get_or, drop, drop_of_length-le}
use lib.Seq.{drop-cons}
use Rattle.std.specs.Int.{from_bool}
use Rattle.rules.specs.Names.{all}
use Rattle.rules.specs.Text.{count_of}

pub drop_next : (s : List ℕ) (i : ℕ) → i < length s → drop i s ≡ get_or s i 0 ∷ drop (i + 1) s
drop_next s i h = rw (add-one, drop-cons s i 0)

pub all_next : (p : ℕ → Bool) (s : List ℕ) (i : ℕ) → i < length s → all p (drop i s) ≡ p (get_or s i 0) && all p (drop (i + 1) s)
unfolding all
all_next p s i h = rw (drop_next s i h)

pub all_end : (p : ℕ → Bool) (s : List ℕ) (i : ℕ) → length s ≤ i → all p (drop i s) ≡ true
unfolding all
all_end p s i h = rw (drop_of_length-le s h)

-- a turn of a loop that tests each element: r is what the test said
pub all_pass : (p : ℕ → Bool) (s : List ℕ) (i : ℕ) {r : Bool} → i < length s → r ≡ p (get_or s i 0) → r ≡ true → all p (drop i s) ≡ all p s
    → all p (drop (i + 1) s) ≡ all p s
all_pass p s i h e t inv = cc (all_next p s i h)

pub all_fail : (p : ℕ → Bool) (s : List ℕ) (i : ℕ) {r : Bool} → i < length s → r ≡ p (get_or s i 0) → r ≡ false → all p (drop i s) ≡ all p s
    → all p s ≡ false
all_fail p s i h e t inv = cc (all_next p s i h)

pub bit : (t : Bool) → cond t 1 0 ≡ from_bool t
bit true = refl
bit false = refl

pub bit_small : (t : Bool) → from_bool t ≤ 1
bit_small true = omega arith
bit_small false = omega arith

pub count_next : (b : ℕ) (s : List ℕ) (i : ℕ) → i < length s → count_of b (drop i s) ≡ from_bool (eqb (get_or s i 0) b) + count_of b (drop (i + 1) s)
unfolding count_of
count_next b s i h = rw (drop_next s i h, bit (eqb (get_or s i 0) b)) refl

pub count_end : (b : ℕ) (s : List ℕ) (i : ℕ) → length s ≤ i → count_of b (drop i s) ≡ 0
unfolding count_of
count_end b s i h = rw (drop_of_length-le s h)
