-- The lines of a text, their keys and values, and numbers in decimal, found by reading exactly where they stand.
use Prim.Native.Nat.{ℕ, zero, suc, ◌+◌, ◌-◌, ◌*◌, ◌/◌, ◌%◌, ◌≤◌, ◌<◌}
use native.Mathlib.Omega.{arith}
use mathlib.Core.Path.{◌≡◌, refl, ap, ap₂, sym, subst, ◌∙◌}
use mathlib.Core.List.{List, [], ◌∷◌, ◌++◌, append-nil, append_assoc}
use mathlib.Core.Logic.{◌↔◌}
use Rattle.std.specs.Prelude.{Option, Some, None}
use Rattle.laws.proofs.Basics.Somes.{some_injective, none_ne_some}
use mathlib.Core.Bool.{Bool, true, false, not, cond, ◌&&◌, true≢false, false≢true}
use borrow.Author.Tests.{not-true}
use lib.Dec.{eqb, leb, ltb}
use Rattle.rules.specs.Bytes.{Text}
use Rattle.rules.specs.Names.{digit, all}
use Rattle.rules.specs.Maybe.{◌>>=◌}
use Rattle.rules.specs.Decimal.{value_from, proper, number_up_to, digits_in, decimal}
use Rattle.rules.specs.Lines.{on_first, lines, after_key, value}
use Rattle.rules.specs.SheetLines.{ended, Unbroken, AllUnbroken, HasLines}
use Rattle.laws.proofs.Basics.Tests.{and_left, and_right, and_both, eqb_true, eqb_self, eqb_differs, differs_eqb, leb_true, true_leb, ltb_true, true_ltb}
use Rattle.laws.proofs.Basics.Options.{bound}
use Rattle.laws.proofs.Basics.Numerals.{ltb_false, decimal_proper, decimal_value}

-- Lines

lines_found : (s : Text) (ls : List Text) → lines s ≡ Some ls → HasLines s ls
unfolding lines ended
lines_found [] ls h = subst (HasLines []) (some_injective [] ls h) (record { text = refl; unbroken = tt })
lines_found (b ∷ s) ls h = go (eqb b 10) refl (lines s) (λ ks e. lines_found s ks e) h
  where
    go : (x : Bool) → eqb b 10 ≡ x → (o : Option (List Text)) → ((ks : List Text) → o ≡ Some ks → HasLines s ks) → on_first x b o ≡ Some ls → HasLines (b ∷ s) ls
    go true f None ih k = absurd (none_ne_some ls k)
    go true f (Some ks) ih k =
        let i = ih ks refl in
        subst (HasLines (b ∷ s)) (some_injective ([] ∷ ks) ls k)
        (record { text = ap₂ (λ (c : ℕ) (r : Text). c ∷ r) (eqb_true b 10 f) i.text; unbroken = (tt, i.unbroken) })
    go false f None ih k = absurd (none_ne_some ls k)
    go false f (Some []) ih k = absurd (none_ne_some ls k)
    go false f (Some (l ∷ ks)) ih k =
        let i = ih (l ∷ ks) refl in
        subst (HasLines (b ∷ s)) (some_injective ((b ∷ l) ∷ ks) ls k)
        (record { text = ap (λ (r : Text). b ∷ r) i.text; unbroken = ((differs_eqb b 10 f, i.unbroken.0), i.unbroken.1) })

line_read : (l r : Text) (ks : List Text) → Unbroken l → lines r ≡ Some ks → lines (l ++ (10 ∷ r)) ≡ Some (l ∷ ks)
unfolding lines
line_read [] r ks u e = ap (on_first true 10) e
line_read (b ∷ l) r ks u e = ap₂ (λ (c : Bool) (o : Option (List Text)). on_first c b o) (eqb_differs b 10 u.0) (line_read l r ks u.1 e)

ended_read : (ls : List Text) → AllUnbroken ls → lines (ended ls) ≡ Some ls
unfolding lines ended
ended_read [] u = refl
ended_read (l ∷ ls) u = line_read l (ended ls) ls u.0 (ended_read ls u.1)

pub lines_has : (s : Text) (ls : List Text) → (lines s ≡ Some ls) ↔ HasLines s ls
lines_has s ls = (lines_found s ls, λ h. ap lines h.text ∙ ended_read ls h.unbroken)

-- Keys

pub key_found : (key l v : Text) → after_key key l ≡ Some v → l ≡ key ++ v
unfolding after_key
key_found [] l v h = some_injective l v h
key_found (k ∷ ks) [] v h = absurd (none_ne_some v h)
key_found (k ∷ ks) (b ∷ l) v h = go (eqb k b) refl h (key_found ks l v)
  where
    go : (x : Bool) → eqb k b ≡ x → elim x [ true ↦ after_key ks l | false ↦ None ] ≡ Some v → (after_key ks l ≡ Some v → l ≡ ks ++ v) → b ∷ l ≡ k ∷ (ks ++ v)
    go true e i r = ap₂ (λ (c : ℕ) (m : Text). c ∷ m) (sym (eqb_true k b e)) (r i)
    go false e i r = absurd (none_ne_some v i)

key_read : (key v : Text) → after_key key (key ++ v) ≡ Some v
unfolding after_key
key_read [] v = refl
key_read (k ∷ ks) v = ap (λ (b : Bool). elim b [ true ↦ after_key ks (ks ++ v) | false ↦ None ]) (eqb_self k) ∙ key_read ks v

-- the first line, and the lines after it
pub value_found : (key : Text) (ls : List Text) (r : Text × List Text) → value key ls ≡ Some r → ls ≡ (key ++ r.0) ∷ r.1
unfolding value
value_found key [] r h = absurd (none_ne_some r h)
value_found key (l ∷ ls) r h =
    let (v, e, h₁) = bound (after_key key l) (λ w. Some (w, ls)) r h in
    ap (λ (m : Text). m ∷ ls) (key_found key l v e) ∙ ap (λ (z : Text × List Text). (key ++ z.0) ∷ z.1) (some_injective (v, ls) r h₁)

pub value_read : (key v : Text) (ls : List Text) → value key ((key ++ v) ∷ ls) ≡ Some (v, ls)
unfolding value
value_read key v ls = ap (λ (o : Option Text). o >>= λ w. Some (w, ls)) (key_read key v)

-- Fuel

-- digits put after those of a number
module _ (p : Text) (m : ℕ) (least : 1 ≤ m) (spells : (w : ℕ) → m < w → digits_in w m ≡ p) where
  digit_after : (d : ℕ) → digit d ≡ true → (w : ℕ) → m * 10 + (d - 48) < w → digits_in w (m * 10 + (d - 48)) ≡ p ++ (d ∷ [])
  unfolding digits_in digit
  digit_after d e zero h = absurd (omega arith)
  digit_after d e (suc w) h = go (ltb (m * 10 + (d - 48)) 10) refl
    where
      low : 48 ≤ d
      low = leb_true 48 d (and_left (leb 48 d) (leb d 57) e)

      high : d ≤ 57
      high = leb_true d 57 (and_right (leb 48 d) (leb d 57) e)

      go : (b : Bool) → ltb (m * 10 + (d - 48)) 10 ≡ b
          → elim b [ true ↦ (48 + (m * 10 + (d - 48))) ∷ [] | false ↦ digits_in w ((m * 10 + (d - 48)) / 10) ++ ((48 + (m * 10 + (d - 48)) % 10) ∷ []) ] ≡ p ++ (d ∷ [])
      go true f = absurd (let k = ltb_true (m * 10 + (d - 48)) 10 f in omega arith)
      go false f =
          let a : (m * 10 + (d - 48)) / 10 ≡ m = let i = low in let j = high in omega arith in
          let c : 48 + (m * 10 + (d - 48)) % 10 ≡ d = let i = low in let j = high in omega arith in
          ap₂ (λ (n x : ℕ). digits_in w n ++ (x ∷ [])) a c ∙ ap (λ (q : Text). q ++ (d ∷ [])) (spells w (let i = low in omega arith))

digits_after : (s p : Text) (m : ℕ) → 1 ≤ m → ((w : ℕ) → m < w → digits_in w m ≡ p) → all digit s ≡ true → (w : ℕ) → value_from m s < w → digits_in w (value_from m s) ≡ p ++ s
unfolding value_from all
digits_after [] p m least spells e w h = spells w h ∙ sym (append-nil p)
digits_after (d ∷ s) p m least spells e w h =
    digits_after s (p ++ (d ∷ [])) (m * 10 + (d - 48)) (omega arith) (digit_after p m least spells d (and_left (digit d) (all digit s) e))
    (and_right (digit d) (all digit s) e) w h
    ∙ append_assoc p (d ∷ []) s

-- a digit by itself
one_digit : (d n : ℕ) → digit d ≡ true → n ≡ d - 48 → (w : ℕ) → n < w → digits_in w n ≡ d ∷ []
unfolding digits_in digit
one_digit d n e q zero h = absurd (omega arith)
one_digit d n e q (suc w) h = go (ltb n 10) refl
  where
    low : 48 ≤ d
    low = leb_true 48 d (and_left (leb 48 d) (leb d 57) e)

    high : d ≤ 57
    high = leb_true d 57 (and_right (leb 48 d) (leb d 57) e)

    go : (b : Bool) → ltb n 10 ≡ b → elim b [ true ↦ (48 + n) ∷ [] | false ↦ digits_in w (n / 10) ++ ((48 + n % 10) ∷ []) ] ≡ d ∷ []
    go true f = let i = low in let c : 48 + n ≡ d = omega arith in ap (λ (x : ℕ). x ∷ []) c
    go false f = absurd (true≢false (sym (true_ltb n 10 (let i = high in omega arith)) ∙ f))

leading : (d : ℕ) → digit d ≡ true → ¬ (d ≡ 48) → 1 ≤ 0 * 10 + (d - 48)
unfolding digit
leading d e n = go (ltb 48 d) refl
  where
    low : 48 ≤ d
    low = leb_true 48 d (and_left (leb 48 d) (leb d 57) e)

    go : (b : Bool) → ltb 48 d ≡ b → 1 ≤ 0 * 10 + (d - 48)
    go true f = let i = ltb_true 48 d f in omega arith
    go false f = absurd (n (let i = low in let j = ltb_false 48 d f in omega arith))

proper_decimal : (s : Text) → proper s ≡ true → s ≡ decimal (value_from 0 s)
unfolding decimal value_from all
proper_decimal [] e = absurd (false≢true e)
proper_decimal (b ∷ []) e = sym (one_digit b (0 * 10 + (b - 48)) e (omega arith) (suc (0 * 10 + (b - 48))) (omega arith))
proper_decimal (b ∷ c ∷ s) e =
    let f = and_right (not (eqb b 48)) (all digit (b ∷ c ∷ s)) e in
    let g = and_left (digit b) (all digit (c ∷ s)) f in
    let n = differs_eqb b 48 (not-true (eqb b 48) (and_left (not (eqb b 48)) (all digit (b ∷ c ∷ s)) e)) in
    sym (digits_after (c ∷ s) (b ∷ []) (0 * 10 + (b - 48)) (leading b g n) (one_digit b (0 * 10 + (b - 48)) g (omega arith)) (and_right (digit b) (all digit (c ∷ s)) f)
    (suc (value_from 0 (b ∷ c ∷ s))) (omega arith))

pub number_found : (k : ℕ) (s : Text) (n : ℕ) → number_up_to k s ≡ Some n → (s ≡ decimal n) × (n ≤ k)
unfolding number_up_to
number_found k s n h = go (proper s && leb (value_from 0 s) k) refl h
  where
    go : (b : Bool) → (proper s && leb (value_from 0 s) k) ≡ b → cond b (Some (value_from 0 s)) None ≡ Some n → (s ≡ decimal n) × (n ≤ k)
    go true e i =
        let j = some_injective (value_from 0 s) n i in
        let l = leb_true (value_from 0 s) k (and_right (proper s) (leb (value_from 0 s) k) e) in
        (proper_decimal s (and_left (proper s) (leb (value_from 0 s) k) e) ∙ ap decimal j, omega arith)
    go false e i = absurd (none_ne_some n i)

pub number_read : (k n : ℕ) → n ≤ k → number_up_to k (decimal n) ≡ Some n
unfolding number_up_to
number_read k n h =
    ap (λ (b : Bool). cond b (Some (value_from 0 (decimal n))) None)
    (and_both (proper (decimal n)) (leb (value_from 0 (decimal n)) k) (decimal_proper n) (true_leb (value_from 0 (decimal n)) k (let e = decimal_value n in omega arith)))
    ∙ ap Some (decimal_value n)
