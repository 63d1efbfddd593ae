-- The fixed names, byte by byte, and what holds of each.
use Prim.Native.Nat.{ℕ, zero, suc, ◌+◌, ◌-◌, ◌<◌, ◌≤◌}
use mathlib.Core.Path.{◌≡◌, refl, sym, ap, ◌∙◌}
use mathlib.Core.Bool.{not}
use mathlib.Core.List.{◌++◌}
use lib.Dec.{eqb}
use lib.ListN.{length, get_or}
use native.Mathlib.Nat.{zero-add}
use native.Mathlib.Omega.{arith}
use native.Mathlib.Decide.{dec_lt}
use borrow.Author.Tests.{eq-eqb, ne_eqb, eqb-false, not-true}
use Rattle.rules.specs.Bytes.{Text, same}
use Rattle.rules.specs.Text.{bytes}
use Rattle.laws.specs.Unspelled.{zeros, unspelled}
use Rattle.laws.proofs.Basics.Tests.{same_of_eq, differ_of_ne, ne_of_differ}
use Rattle.laws.proofs.Renaming.Unspelled.{unspelled_length}
use Rattle.std.specs.Prelude.{Some, None}
use Rattle.tree.specs.declared.fixed.Fixed.{Fixed}
use Rattle.tree.specs.declared.fixed.Fixed.TheVariants.{RoleA, RoleB, Pair, Senc, Kem, Pk}
use Rattle.tree.specs.Names.{fixed_text, coded_fixed}
use Rattle.tree.specs.Cells.{fixed_name}
use Rattle.tree.proofs.Bounded.{every_below, below_holds, agree, agreeing}

-- ---- the bytes of a name that no sheet spells

zeros_byte : (n : ℕ) (t : Text) (i : ℕ) → i < n → get_or (zeros n ++ t) i 0 ≡ 48
unfolding zeros
zeros_byte zero t i h = absurd (omega arith)
zeros_byte (suc n) t zero h = refl
zeros_byte (suc n) t (suc i) h = zeros_byte n t i (omega arith)

zeros_then : (n : ℕ) (t : Text) (i : ℕ) → get_or (zeros n ++ t) (n + i) 0 ≡ get_or t i 0
unfolding zeros
zeros_then zero t i = rw zero-add
zeros_then (suc n) t i = let e : suc n + i ≡ suc (n + i) = omega arith in rw e (zeros_then n t i)

pub unspelled_first : (n a : ℕ) → a ≡ 0 → 120 ≡ get_or (unspelled n) a 0
unfolding unspelled
unspelled_first n a e = rw e

pub unspelled_zero : (n a : ℕ) → 0 < a → a < 65537 + n → 48 ≡ get_or (unspelled n) a 0
unfolding unspelled
unspelled_zero n zero p q = absurd (omega arith)
unspelled_zero n (suc a) p q = sym (zeros_byte (65536 + n) (bytes ":Msg") a (omega arith))

pub unspelled_end : (n a i : ℕ) → a ≡ 65537 + n + i → get_or (bytes ":Msg") i 0 ≡ get_or (unspelled n) a 0
unfolding unspelled
unspelled_end n a i e = let f : a ≡ suc (65536 + n + i) = omega arith in rw f (sym (zeros_then (65536 + n) (bytes ":Msg") i))

-- ---- the name of a code

-- the names from code 7 on
pub fixed_unspelled : (c : ℕ) → 7 ≤ c → fixed_name c ≡ unspelled (c - 7)
fixed_unspelled c h =
    let e : c ≡ suc (suc (suc (suc (suc (suc (suc (c - 7))))))) = omega arith in
    let f : suc (suc (suc (suc (suc (suc (c - 7)))))) - 6 ≡ c - 7 = omega arith in
    ap fixed_name e ∙ ap unspelled f

-- the name of a code that is one of the fixed names, and of any other
pub some_fixed : (c : ℕ) (f : Fixed) → coded_fixed c ≡ Some f → fixed_text f ≡ fixed_name c
some_fixed zero f e = absurd cc
some_fixed (suc zero) f e = let g : RoleA ≡ f = cc in ap fixed_text (sym g)
some_fixed (suc (suc zero)) f e = let g : RoleB ≡ f = cc in ap fixed_text (sym g)
some_fixed (suc (suc (suc zero))) f e = let g : Pair ≡ f = cc in ap fixed_text (sym g)
some_fixed (suc (suc (suc (suc zero)))) f e = let g : Senc ≡ f = cc in ap fixed_text (sym g)
some_fixed (suc (suc (suc (suc (suc zero))))) f e = let g : Kem ≡ f = cc in ap fixed_text (sym g)
some_fixed (suc (suc (suc (suc (suc (suc zero)))))) f e = let g : Pk ≡ f = cc in ap fixed_text (sym g)
some_fixed (suc (suc (suc (suc (suc (suc (suc c))))))) f e = absurd cc

pub none_code : (c : ℕ) → 0 < c → coded_fixed c ≡ None → 7 ≤ c
none_code zero p e = absurd (omega arith)
none_code (suc zero) p e = absurd cc
none_code (suc (suc zero)) p e = absurd cc
none_code (suc (suc (suc zero))) p e = absurd cc
none_code (suc (suc (suc (suc zero)))) p e = absurd cc
none_code (suc (suc (suc (suc (suc zero))))) p e = absurd cc
none_code (suc (suc (suc (suc (suc (suc zero)))))) p e = absurd cc
none_code (suc (suc (suc (suc (suc (suc (suc c))))))) p e = omega arith

pub none_fixed : (c : ℕ) → 0 < c → coded_fixed c ≡ None → unspelled (c - 7) ≡ fixed_name c
none_fixed c p e = sym (fixed_unspelled c (none_code c p e))

pub fixed_length : (c : ℕ) → 7 ≤ c → length (fixed_name c) ≡ c + 65534
fixed_length c h = ap length (fixed_unspelled c h) ∙ omega (arith, unspelled_length (c - 7))

-- the names before code 7
pub fixed_short : (c : ℕ) → 0 < c → c < 7 → (0 < length (fixed_name c)) × (length (fixed_name c) ≤ 10)
fixed_short zero p q = absurd (omega arith)
fixed_short (suc zero) p q = (omega arith, omega arith)
fixed_short (suc (suc zero)) p q = (omega arith, omega arith)
fixed_short (suc (suc (suc zero))) p q = (omega arith, omega arith)
fixed_short (suc (suc (suc (suc zero)))) p q = (omega arith, omega arith)
fixed_short (suc (suc (suc (suc (suc zero))))) p q = (omega arith, omega arith)
fixed_short (suc (suc (suc (suc (suc (suc zero)))))) p q = (omega arith, omega arith)
fixed_short (suc (suc (suc (suc (suc (suc (suc c))))))) p q = absurd (omega arith)

-- every code from 1 on has a name
pub fixed_some : (c : ℕ) → 0 < c → (0 < length (fixed_name c)) × (length (fixed_name c) ≤ c + 65534)
fixed_some c p = elim (dec_lt c 7) [
  | yes q ↦ (let h = fixed_short c p q in (h.0, omega arith))
  | no q ↦ (let e = fixed_length c (omega arith) in (omega arith, omega arith))
]

-- two codes have one name where they are one
few_codes : (a b : ℕ) → 0 < a → a < 7 → 0 < b → b < 7 → same (fixed_name a) (fixed_name b) ≡ eqb a b
unfolding same every_below agree
few_codes zero b p q p₁ q₁ = absurd (omega arith)
few_codes (suc a) zero p q p₁ q₁ = absurd (omega arith)
few_codes (suc a) (suc b) p q p₁ q₁ =
    agreeing _ _ (below_holds 6 (λ y. agree (same (fixed_name (suc a)) (fixed_name (suc y))) (eqb (suc a) (suc y)))
    (below_holds 6 (λ x. every_below 6 (λ y. agree (same (fixed_name (suc x)) (fixed_name (suc y))) (eqb (suc x) (suc y)))) refl a (omega arith)) b (omega arith))

apart : (a b : ℕ) → 0 < a → 0 < b → (a ≡ b → ⊥) → fixed_name a ≡ fixed_name b → ⊥
apart a b p q h e = elim (dec_lt a 7) [
  | yes x ↦ elim (dec_lt b 7) [
    | yes y ↦ ne_of_differ (few_codes a b p x q y ∙ ne_eqb a b h) e
    | no y ↦ omega (arith, ap length e, fixed_short a p x, fixed_length b (omega arith))
  ]
  | no x ↦ elim (dec_lt b 7) [
    | yes y ↦ omega (arith, ap length e, fixed_short b q y, fixed_length a (omega arith))
    | no y ↦ h (omega (arith, ap length e, fixed_length a (omega arith), fixed_length b (omega arith)))
  ]
]

pub codes : (a b : ℕ) → 0 < a → 0 < b → same (fixed_name a) (fixed_name b) ≡ eqb a b
codes a b p q = elim (dec_lt a b) [
  | yes x ↦ apart_codes (omega arith)
  | no x ↦ elim (dec_lt b a) [
    | yes y ↦ apart_codes (omega arith)
    | no y ↦ (let e : a ≡ b = omega arith in same_of_eq (ap fixed_name e) ∙ sym (eq-eqb a b e))
  ]
]
  where
    apart_codes : (a ≡ b → ⊥) → same (fixed_name a) (fixed_name b) ≡ eqb a b
    apart_codes h = differ_of_ne (apart a b p q h) ∙ sym (ne_eqb a b h)

-- a fixed name is no atom's text
pub fixed_plain : (c : ℕ) → get_or (fixed_name c) 1 0 ≡ 40 → ⊥
unfolding every_below
fixed_plain c e = elim (dec_lt c 7) [
  | yes h ↦ eqb-false (get_or (fixed_name c) 1 0) 40 (not-true (eqb (get_or (fixed_name c) 1 0) 40) (below_holds 7 (λ m. not (eqb (get_or (fixed_name m) 1 0) 40)) refl c h)) e
  | no h ↦ (let f : ◌≡◌ {A = ℕ} 48 40 = unspelled_zero (c - 7) 1 (omega arith) (omega arith) ∙ sym (ap (λ (t : Text). get_or t 1 0) (fixed_unspelled c (omega arith))) ∙ e in omega arith)
]
