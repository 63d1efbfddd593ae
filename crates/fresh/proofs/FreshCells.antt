-- The names of fresh variables as bytes.
use Prim.Native.Nat.{ℕ, zero, suc, ◌+◌, ◌-◌, ◌/◌, ◌<◌, ◌≤◌, ◌^◌}
use mathlib.Core.Path.{◌≡◌, ap, ◌∙◌}
use mathlib.Core.Bool.{true, false}
use mathlib.Core.List.{◌++◌}
use lib.ListN.{length, take, drop, length-append}
use lib.Seq.{take_at}
use native.Mathlib.Omega.{arith}
use native.Mathlib.Decide.{dec_lt}
use Rattle.rules.specs.Bytes.{Text}
use Rattle.rules.specs.Text.{bytes}
use Rattle.rules.specs.Decimal.{decimal}
use Rattle.rules.specs.Variants.{fresh_name}
use Rattle.laws.specs.Unspelled.{unspelled, chosen}
use Rattle.text.proofs.Decimals.{width_one, width_more}
use Rattle.text.specs.Printing.{printed_over, Printed}
use Rattle.tree.proofs.Printing.{printed_then}
use Rattle.sheet.specs.Lines.{part_of}
use Rattle.fresh.specs.Searching.{spells}
use Rattle.fresh.specs.Fresh.{chosen_in}

-- ---- a name as bytes

-- how many digits a number below a power of ten has
width_bounded : (w n : ℕ) → n < 10 ^ suc w → length (decimal n) ≤ suc w
width_bounded zero n h = omega (arith, width_one n (omega arith))
width_bounded (suc w) n h = go (dec_lt n 10) (λ k. width_bounded w (n / 10) k)
  where
    go : Dec (n < 10) → (n / 10 < 10 ^ suc w → length (decimal (n / 10)) ≤ suc w) → length (decimal n) ≤ suc (suc w)
    go (yes l) r = omega (arith, width_one n l)
    go (no l) r =
        let k : n / 10 < 10 ^ suc w = omega arith in
        omega (arith, width_more n (omega arith), r k)

pub width_within : (n : ℕ) → n < 2 ^ 64 → length (decimal n) ≤ 20
width_within n h = width_bounded 19 n (omega arith)

pub fresh_length : (n : ℕ) → length (fresh_name n) ≡ 5 + length (decimal n)
unfolding fresh_name
fresh_length n = simp length-append (omega arith)

pub fresh_printed : {out a b c : Text} {i j r : ℕ} (n : ℕ) → n < 2 ^ 64 → 25 ≤ length out
    → Printed out a 0 (bytes "x") i → Printed a b i (decimal n) j → Printed b c j (bytes ":Msg") r → Printed out c 0 (fresh_name n) r
unfolding fresh_name
fresh_printed {out} n h room x y z =
    let k = width_within n h in
    let two : Printed out _ 0 (bytes "x" ++ decimal n) _ = printed_then (omega arith) x y in
    printed_then (omega (arith, length-append (bytes "x") (decimal n))) two z

-- the bytes from the front on, as the code cuts them
pub printed_front : {out v t : Text} {r : ℕ} → Printed out v 0 t r → part_of 0 r v ≡ t
unfolding printed_over
printed_front {out} {v} {t} {r} x =
    let e : length t ≡ r - 0 = omega (arith, x.end) in
    ap (take (r - 0)) x.bytes ∙ take_at t (drop (0 + length t) out) (r - 0) e

pub fresh_some : (n : ℕ) → 0 < length (fresh_name n)
fresh_some n = omega (arith, fresh_length n)

-- ---- one fresh variable

module _ (s : Text) (base n : ℕ) where
  pub unchosen : spells s (fresh_name (base + n)) ≡ false → chosen_in s base n ≡ unspelled n
  unfolding chosen
  unchosen e = rw e

  pub as_chosen : spells s (fresh_name (base + n)) ≡ true → chosen_in s base n ≡ fresh_name (base + n)
  unfolding chosen
  as_chosen e = rw e
