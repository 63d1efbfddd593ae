-- The words that a sheet of kind `complete` needs are enough for the run of each scheme, and after it for the match of each member.
use Prim.Native.Nat.{ℕ, min, ◌+◌, ◌*◌, ◌<◌, ◌≤◌, ◌^◌}
use mathlib.Core.Path.{◌≡◌, refl}
use mathlib.Core.Bool.{Bool, true, false, cond}
use lib.Dec.{leb}
use native.Mathlib.Omega.{arith}
use native.Mathlib.Decide.{dec_lt}
use Rattle.laws.proofs.Basics.Tests.{leb_true, leb_false}
use Rattle.elimination.specs.declared.room.TheConstants.{STEP_WORDS, NAME_CELLS}
use Rattle.complete.specs.Judging.{fuel_for}

pub fuel_few : (nodes named : ℕ) → (fuel_for nodes named ≤ 65536) × (fuel_for nodes named ≤ nodes + 4096 * named + 1)
unfolding fuel_for
fuel_few nodes named = go (leb (nodes + 4096 * named + 1) 65535) refl
  where
    go : (b : Bool) → leb (nodes + 4096 * named + 1) 65535 ≡ b
        → (cond b (nodes + 4096 * named + 1) 65536 ≤ 65536) × (cond b (nodes + 4096 * named + 1) 65536 ≤ nodes + 4096 * named + 1)
    go true e = (omega (arith, leb_true (nodes + 4096 * named + 1) 65535 e), omega arith)
    go false e = (omega arith, omega (arith, leb_false (nodes + 4096 * named + 1) 65535 e))

pub fuel_min : (nodes named : ℕ) → min (nodes + 4096 * named + 1) 65536 ≡ fuel_for nodes named
unfolding fuel_for
fuel_min nodes named = go (leb (nodes + 4096 * named + 1) 65535) refl
  where
    go : (b : Bool) → leb (nodes + 4096 * named + 1) 65535 ≡ b → min (nodes + 4096 * named + 1) 65536 ≡ cond b (nodes + 4096 * named + 1) 65536
    go true e = omega (arith, leb_true (nodes + 4096 * named + 1) 65535 e)
    go false e = omega (arith, leb_false (nodes + 4096 * named + 1) 65535 e)

-- b bytes and c colons of the sheet; t bytes of a member's texts, k colons of its keys; the term has `size` nodes, x variables, d colons, p
-- brackets and q sites; its system has n nodes, its run takes fuel f

few_fuel : (n d p f : ℕ) → n ≤ 16384 + 4100 * p → f ≤ n + 4096 * (d + 2 * p) + 1 → d + p < 4 → 8 * f ≤ 462742 + 16352 * d + 16328 * p
few_fuel n d p f h g l = omega arith

more_fuel : (d p f : ℕ) → f ≤ 65536 → 4 ≤ d + p → 8 * f ≤ 462742 + 16352 * d + 16328 * p
more_fuel d p f h l = omega arith

fuel_words : (n d p f : ℕ) → n ≤ 16384 + 4100 * p → f ≤ 65536 → f ≤ n + 4096 * (d + 2 * p) + 1 → 8 * f ≤ 462742 + 16352 * d + 16328 * p
fuel_words n d p f h g i = elim (dec_lt (d + p) 4) [ yes l ↦ few_fuel n d p f h i l | no l ↦ more_fuel d p f g (omega arith) ]

system_most : (size p q n : ℕ) → n ≤ 4 * size + 4100 * q → q ≤ p → n ≤ 4 * size + 4100 * p
system_most size p q n h g = omega arith

text_words : (size t b : ℕ) → size ≤ 4096 → size + t < b → b ≤ 65536 → 24 * size + 4 * t ≤ 344060
text_words size t b h g i = omega arith

-- the end of the run
run_words : (x b size n d p f top : ℕ) → n ≤ 4 * size + 4100 * p → 8 * f ≤ 462742 + 16352 * d + 16328 * p → top ≤ 26 + x + 2 * b + 2 * size + 1024 + n + 2 * f + NAME_CELLS * (d + 2 * p)
    → 4 * top ≤ 466942 + 4 * x + 8 * b + 24 * size + 65524 * d + 131072 * p
run_words x b size n d p f top h g i = omega arith

key_words : (t k weigh : ℕ) → weigh ≤ t + 4095 * k + 4095 → 4 * weigh ≤ 4 * t + 65536 * k + 16380
key_words t k weigh h = omega arith

sum_words : (b c t k weigh size x d p top : ℕ) → 4 * top ≤ 466942 + 4 * x + 8 * b + 24 * size + 65524 * d + 131072 * p → 4 * weigh ≤ 4 * t + 65536 * k + 16380
    → 24 * size + 4 * t ≤ 344060 → x ≤ d → d + k ≤ c → 4 * (top + 4098 + 2 * x + weigh + 2 * b) + STEP_WORDS ≤ 65536 * (c + 2 * p + 16) + 16 * b
sum_words b c t k weigh size x d p top h g i j l = omega arith

module _ (b c t k weigh size x d p q n f top : ℕ) (short : b ≤ 65536) (colons : d + k ≤ c) (bytes : size + t < b) (weighs : weigh ≤ t + 4095 * k + 4095)
    (small : size ≤ 4096) (names : x ≤ d) (sites : q ≤ p) (nodes : n ≤ 4 * size + 4100 * q) (fuel : f ≤ 65536) (fuel_by : f ≤ n + 4096 * (d + 2 * p) + 1)
    (ends : top ≤ 26 + x + 2 * b + 2 * size + 1024 + n + 2 * f + NAME_CELLS * (d + 2 * p)) where
  most : n ≤ 4 * size + 4100 * p
  most = system_most size p q n nodes sites

  most_small : (m : ℕ) → m ≤ 4 * size + 4100 * p → m ≤ 16384 + 4100 * p
  most_small m h = omega (arith, small, h)

  pub match_words : 4 * (top + 4098 + 2 * x + weigh + 2 * b) + STEP_WORDS ≤ 65536 * (c + 2 * p + 16) + 16 * b
  match_words =
      sum_words b c t k weigh size x d p top (run_words x b size n d p f top most (fuel_words n d p f (most_small n most) fuel fuel_by) ends)
      (key_words t k weigh weighs) (text_words size t b small bytes short) names colons

cells_few : (c p b m : ℕ) → 4 * m + STEP_WORDS ≤ 65536 * (c + 2 * p + 16) + 16 * b → c ≤ 65536 → p ≤ 65536 → b ≤ 65536 → m + 65536 < 2 ^ 32
cells_few c p b m h g i j = omega arith

-- the room of a match
pub match_room : (b c p m length : ℕ) → 4 * m + STEP_WORDS ≤ 65536 * (c + 2 * p + 16) + 16 * b → c ≤ 65536 → p ≤ 65536 → b ≤ 65536 → 65536 * (c + 2 * p + 16) + 16 * b ≤ length
    → (4 * m + STEP_WORDS ≤ length) × (m + 65536 < 2 ^ 32)
match_room b c p m length h g i j l = (omega (arith, h, l), cells_few c p b m h g i j)
