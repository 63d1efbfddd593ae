-- Decimal numbers at a position of a text, and the digits of a number one at a time from the last.
use mathlib.Core.Path.{◌≡◌, refl, ap, sym, ◌∙◌}
use mathlib.Core.List.{List, [], ◌∷◌, ◌++◌, append_assoc}
use mathlib.Core.Bool.{Bool, true, false, not, ◌&&◌, and-false}
use Prim.Native.Nat.{ℕ, zero, suc, ◌+◌, ◌-◌, ◌*◌, ◌/◌, ◌%◌, ◌<◌, ◌≤◌, ◌^◌}
use native.Mathlib.Omega.{arith}
use native.Mathlib.Decide.{dec_lt}
use lib.ListN.{length, get_or, take, drop, set, drop_of_length-le, length-append, take-append-drop}
use lib.Seq.{drop-cons, get_or-set_same, drop-set-lt, take-set-le, lt-length-set}
use lib.Dec.{eqb, leb, ltb}
use borrow.Author.Tests.{eq-eqb, lt-ltb, le-ltb, lt-leb, le-leb}
use Rattle.rules.specs.Names.{digit, all}
use Rattle.rules.specs.Decimal.{value_from, proper, number_up_to, digits_in, decimal}
use Rattle.laws.proofs.Basics.Tests.{and_left, and_right, leb_true}
use Rattle.std.specs.Prelude.{Option, Some, None, IfNone, IfSome, MatchOption}
use Rattle.text.proofs.Loops.{drop_next}

-- ---- reading

value_grows : (n : ℕ) (s : List ℕ) → n ≤ value_from n s
unfolding value_from
value_grows n [] = omega arith
value_grows n (b ∷ s) = omega (arith, value_grows (n * 10 + (b - 48)) s)

value_next : (n : ℕ) (s : List ℕ) (i : ℕ) → i < length s → value_from n (drop i s) ≡ value_from (n * 10 + (get_or s i 0 - 48)) (drop (i + 1) s)
unfolding value_from
value_next n s i h = rw (drop_next s i h)

pub value_end : (n : ℕ) (s : List ℕ) (i : ℕ) → length s ≤ i → value_from n (drop i s) ≡ n
unfolding value_from
value_end n s i h = rw (drop_of_length-le s h)

pub digit_bounds : (b : ℕ) → digit b ≡ true → (48 ≤ b) × (b ≤ 57)
unfolding digit
digit_bounds b e = (leb_true 48 b (and_left (leb 48 b) (leb b 57) e), leb_true b 57 (and_right (leb 48 b) (leb b 57) e))

-- no digits, or a zero before others
abbrev pub led : List ℕ → Bool
led [] = false
led (b ∷ []) = true
led (b ∷ c ∷ s) = not (eqb b 48)

proper_is : (s : List ℕ) → proper s ≡ led s && all digit s
unfolding all
proper_is [] = refl
proper_is (b ∷ []) = go (digit b)
  where
    go : (t : Bool) → t ≡ t && true
    go true = refl
    go false = refl
proper_is (b ∷ c ∷ s) = refl

pub led_none : (s : List ℕ) → length s ≡ 0 → led s ≡ false
led_none [] e = refl
led_none (b ∷ s) e = absurd (omega arith)

pub led_zero : (s : List ℕ) → 1 < length s → get_or s 0 0 ≡ 48 → led s ≡ false
led_zero [] h e = refl
led_zero (b ∷ []) h e = absurd (omega arith)
led_zero (b ∷ c ∷ s) h e = rw (eq-eqb b 48 e)

module _ (bound : ℕ) (s : List ℕ) where
  pub number_unled : led s ≡ false → None ≡ number_up_to bound s
  unfolding number_up_to
  number_unled p = rw (proper_is s, p)

  pub number_foreign : all digit s ≡ false → None ≡ number_up_to bound s
  unfolding number_up_to
  number_foreign a = rw (proper_is s, a, and-false (led s))

  number_large : bound < value_from 0 s → None ≡ number_up_to bound s
  unfolding number_up_to
  number_large h = rw (lt-leb _ _ h, and-false (proper s))

  pub number_is : {n : ℕ} → led s ≡ true → all digit s ≡ true → n ≡ value_from 0 s → n ≤ bound → Some n ≡ number_up_to bound s
  unfolding number_up_to
  number_is p a e h = rw (proper_is s, p, a, ← e, le-leb _ _ h)

-- a turn of the reader, at a text that spells n so far
module _ (n : ℕ) (s : List ℕ) (i : ℕ) (h : i < length s) (inv : value_from n (drop i s) ≡ value_from 0 s) where
  pub value_turn : (m : ℕ) → m ≡ n * 10 + (get_or s i 0 - 48) → value_from m (drop (i + 1) s) ≡ value_from 0 s
  value_turn m e = rw e (sym (value_next n s i h) ∙ inv)

  pub number_over : (bound : ℕ) → bound < n * 10 + (get_or s i 0 - 48) → None ≡ number_up_to bound s
  number_over bound p =
      let e = value_next n s i h in
      let g = value_grows (n * 10 + (get_or s i 0 - 48)) (drop (i + 1) s) in
      number_large bound s (omega arith)

-- ---- printing

abbrev last_digit : Bool → ℕ → List ℕ → List ℕ
last_digit b n s = elim b [ true ↦ (48 + n) ∷ [] | false ↦ s ++ ((48 + n % 10) ∷ []) ]

digits_turn : (w n : ℕ) (b : Bool) → ltb n 10 ≡ b → digits_in (suc w) n ≡ last_digit b n (digits_in w (n / 10))
unfolding digits_in
digits_turn w n b e = ap (λ (b : Bool). last_digit b n (digits_in w (n / 10))) e

digits_same : (w v n : ℕ) → n < w → n < v → digits_in w n ≡ digits_in v n
digits_same zero v n p q = absurd (omega arith)
digits_same (suc w) zero n p q = absurd (omega arith)
digits_same (suc w) (suc v) n p q = go (dec_lt n 10) (λ h. digits_same w v (n / 10) (omega arith) (omega arith))
  where
    go : Dec (n < 10) → (10 ≤ n → digits_in w (n / 10) ≡ digits_in v (n / 10)) → digits_in (suc w) n ≡ digits_in (suc v) n
    go (yes l) h = let e = lt-ltb n 10 l in digits_turn w n true e ∙ sym (digits_turn v n true e)
    go (no l) h =
        let k : 10 ≤ n = omega arith in
        let e = le-ltb n 10 k in
        digits_turn w n false e ∙ ap (last_digit false n) (h k) ∙ sym (digits_turn v n false e)

pub decimal_one : (n : ℕ) → n < 10 → decimal n ≡ (48 + n % 10) ∷ []
unfolding decimal
decimal_one n h = let e : n ≡ n % 10 = omega arith in digits_turn n n true (lt-ltb n 10 h) ∙ ap (λ (d : ℕ). (48 + d) ∷ []) e

pub decimal_more : (n : ℕ) → 10 ≤ n → decimal n ≡ decimal (n / 10) ++ ((48 + n % 10) ∷ [])
unfolding decimal
decimal_more n h = digits_turn n n false (le-ltb n 10 h) ∙ ap (last_digit false n) (digits_same n (suc (n / 10)) (n / 10) (omega arith) (omega arith))

pub width_one : (n : ℕ) → n < 10 → length (decimal n) ≡ 1
width_one n h = ap length (decimal_one n h)

pub width_more : (n : ℕ) → 10 ≤ n → length (decimal n) ≡ suc (length (decimal (n / 10)))
width_more n h = ap length (decimal_more n h) ∙ length-append (decimal (n / 10)) ((48 + n % 10) ∷ []) ∙ omega arith

-- the digits of a number between two powers of ten
pub width_by : (k n : ℕ) → 10 ^ k ≤ n → n < 10 * 10 ^ k → length (decimal n) ≡ k + 1
width_by zero n p q = width_one n (omega (arith, q))
width_by (suc k) n p q =
    let e : 10 ^ suc k ≡ 10 * 10 ^ k = omega arith in
    let z : 1 ≤ 10 ^ k = omega arith in
    width_more n (omega arith) ∙ ap suc (width_by k (n / 10) (omega arith) (omega arith)) ∙ omega arith

-- the same by the logarithm, if there is one
pub width_told : (n : ℕ) {r : ℕ} (o : Option ℕ) (Q : ℕ → Type 0) → IfNone o (n ≡ 0) → IfSome o (λ k. 10 ^ k ≤ n) → IfSome o (λ k. n < 10 * 10 ^ k) → MatchOption o (r ≡ 1) Q → ((k : ℕ) → Q k → r ≡ k + 1)
    → r ≡ length (decimal n)
width_told n None Q z p q e f = e ∙ sym (width_one n (omega (arith, z)))
width_told n (Some k) Q z p q e f = f k e ∙ sym (width_by k n p q)

-- the last w digits of a number
unfoldable pub padded : ℕ → ℕ → List ℕ
padded zero n = []
padded (suc w) n = padded w (n / 10) ++ ((48 + n % 10) ∷ [])

padded_at : (j i m : ℕ) → i ≡ suc j → padded i m ≡ padded j (m / 10) ++ ((48 + m % 10) ∷ [])
unfolding padded
padded_at j i m e = rw e

padded_one : (i m : ℕ) → i ≡ 1 → padded i m ≡ (48 + m % 10) ∷ []
unfolding padded
padded_one i m e = rw e

decimal_padded_to : (k n : ℕ) → n ≤ k → decimal n ≡ padded (length (decimal n)) n
decimal_padded_to zero n h = decimal_one n (omega arith) ∙ sym (padded_one (length (decimal n)) n (width_one n (omega arith)))
decimal_padded_to (suc k) n h = go (dec_lt n 10) (λ i. decimal_padded_to k (n / 10) (omega arith))
  where
    go : Dec (n < 10) → (10 ≤ n → decimal (n / 10) ≡ padded (length (decimal (n / 10))) (n / 10)) → decimal n ≡ padded (length (decimal n)) n
    go (yes l) h = decimal_one n l ∙ sym (padded_one (length (decimal n)) n (width_one n l))
    go (no l) h =
        let i : 10 ≤ n = omega arith in
        decimal_more n i ∙ ap (last_digit false n) (h i) ∙ sym (padded_at (length (decimal (n / 10))) (length (decimal n)) n (width_more n i))

pub decimal_padded : (n : ℕ) → decimal n ≡ padded (length (decimal n)) n
decimal_padded n = decimal_padded_to n n (omega arith)

drop_set : (l : List ℕ) (i v : ℕ) → i < length l → drop i (set l i v) ≡ v ∷ drop (suc i) l
drop_set l i v h =
    drop-cons (set l i v) i 0 (lt-length-set l i v h)
    ∙ rw (get_or-set_same l i v 0 h, drop-set-lt (suc i) l i v (omega arith))

-- a turn of the printer: the digit before i
pub print_turn : (out rest : List ℕ) (at i m : ℕ) → at < i → i ≤ length out → take at out ++ (padded (i - at) m ++ drop i out) ≡ rest
    → take at (set out (i - 1) (48 + m % 10)) ++ (padded (i - 1 - at) (m / 10) ++ drop (i - 1) (set out (i - 1) (48 + m % 10))) ≡ rest
print_turn out rest at i m h l inv =
    let e : i ≡ suc (i - 1) = omega arith in
    let p : i - at ≡ suc (i - 1 - at) = omega arith in
    let d : drop (i - 1) (set out (i - 1) (48 + m % 10)) ≡ (48 + m % 10) ∷ drop i out = drop_set out (i - 1) (48 + m % 10) (omega arith) ∙ ap (λ (n : ℕ). (48 + m % 10) ∷ drop n out) (sym e) in
    let k : take at (set out (i - 1) (48 + m % 10)) ≡ take at out = take-set-le at out (i - 1) (48 + m % 10) (omega arith) in
    rw (k, d) (ap (take at out ++◌) (sym (append_assoc (padded (i - 1 - at) (m / 10)) ((48 + m % 10) ∷ []) (drop i out)) ∙ ap (◌++ drop i out) (sym (padded_at (i - 1 - at) (i - at) m p))) ∙ inv)

pub print_end : (out rest : List ℕ) (at i m : ℕ) → at ≤ i → i ≤ at → take at out ++ (padded (i - at) m ++ drop i out) ≡ rest → out ≡ rest
unfolding padded
print_end out rest at i m g h inv =
    let e : i ≡ at = omega arith in
    let z : at - at ≡ 0 = omega arith in
    sym (take-append-drop at out) ∙ (rw (e, z) at inv)
