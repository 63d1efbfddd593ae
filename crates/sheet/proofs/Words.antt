-- The text at a place, told by its word.
use Prim.Native.Nat.{ℕ, ◌+◌, ◌-◌, ◌/◌, ◌%◌, ◌<◌, ◌≤◌}
use mathlib.Core.Path.{◌≡◌, ap, ap₂}
use lib.ListN.{take, drop}
use native.Mathlib.Omega.{arith}
use Rattle.rules.specs.Bytes.{Text}
use Rattle.text.specs.Places.{text_at}
use Rattle.sheet.specs.Places.{word_of, place_of}
use Rattle.sheet.specs.Lines.{part_of}
use Rattle.sheet.specs.declared.Place.{Place}

-- the word of a place names its text
pub text_at_word : (s : Text) (p : Place) → p.from ≤ p.to → p.to < p.from + 65536 → text_at s (word_of p) ≡ part_of p.from p.to s
unfolding text_at
text_at_word s p g h =
    let d : word_of p / 65536 ≡ p.from = omega arith in
    let r : word_of p % 65536 ≡ p.to - p.from = omega arith in
    ap₂ (λ (i j : ℕ). take i (drop j s)) r d

-- the place that a word names has the word's text
pub text_of_place : (s : Text) (x : ℕ) → part_of (place_of x).from (place_of x).to s ≡ text_at s x
unfolding text_at
text_of_place s x =
    let r : (place_of x).to - (place_of x).from ≡ x % 65536 = omega arith in
    ap (λ (i : ℕ). take i (drop (x / 65536) s)) r
