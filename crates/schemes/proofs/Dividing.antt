-- An index below a number of ways, divided by a product.
use Prim.Native.Nat.{ℕ, zero, suc, ◌+◌, ◌*◌, ◌/◌, ◌%◌, ◌<◌}
use native.Mathlib.Nat.{mul_comm, mul_assoc, zero-mul, mod-lt, mod-eq_of_lt, div-add-mod', div-lt_iff_lt-mul, add-mul-div_left, add-mul-mod_self_left, div-div-eq-div-mul, div-eq_of_eq-mul_right, mod-mod_of_dvd, dvd-mul_left, add_comm}
use native.Mathlib.Omega.{arith}
use mathlib.Core.Path.{◌≡◌, sym, ap, ◌∙◌, subst}
use Rattle.schemes.specs.Choices.{Shared}
use Rattle.laws.proofs.Variants.SchemeAt.{right_positive}

-- the factors of a number above another are positive
pub left_positive : (i a b : ℕ) → i < a * b → 0 < a
left_positive i zero b h = absurd (omega (arith, zero-mul b))
left_positive i (suc a) b h = omega arith

-- dividing by b * q
quotient_twice : (i b q : ℕ) → i / (b * q) ≡ i / q / b
quotient_twice i b q = ap (λ (m : ℕ). i / m) (mul_comm b q) ∙ sym (div-div-eq-div-mul i q b)

rest_quotient : (i b q : ℕ) → 0 < b * q → 0 < q → i % (b * q) / q ≡ i / q % b
rest_quotient i b q h p =
    let m = b * q in
    let a = i / m in
    let r = i % m in
    let e : r + q * (b * a) ≡ i = ap (λ (x : ℕ). r + x) (sym (mul_assoc q b a) ∙ ap (λ (x : ℕ). x * a) (mul_comm q b) ∙ mul_comm m a) ∙ add_comm r (a * m) ∙ div-add-mod' i m in
    let f : i / q ≡ r / q + b * a = ap (λ (x : ℕ). x / q) (sym e) ∙ add-mul-div_left r (b * a) p in
    let l : r / q < b = (div-lt_iff_lt-mul p).1 (mod-lt i h) in
    sym (ap (λ (x : ℕ). x % b) f ∙ add-mul-mod_self_left (r / q) b a ∙ mod-eq_of_lt l)

-- the factor a * b taken as a and then as b
pub record Split (a b ways index : ℕ) : Type 0 where
  pub first : Shared a ways index
  pub rest : Shared b (ways / a) (index % (ways / a))
  pub ways_left : ways / a / b ≡ ways / (a * b)
  pub quotient : index / (ways / a) ≡ index / (ways / (a * b)) / b
  pub choice : index % (ways / a) / (ways / (a * b)) ≡ index / (ways / (a * b)) % b
  pub left : index % (ways / a) % (ways / (a * b)) ≡ index % (ways / (a * b))

pub split : (a b : ℕ) {ways index : ℕ} → Shared (a * b) ways index → Split a b ways index
split a b {ways} {index} h =
    let q = ways / (a * b) in
    let l : index < a * b * q = subst (λ (m : ℕ). index < m) h.whole h.below in
    let pab = left_positive index (a * b) q l in
    let pq = right_positive index (a * b) q l in
    let pa = left_positive 0 a b pab in
    let e : ways ≡ a * (b * q) = h.whole ∙ mul_assoc a b q in
    let f : ways / a ≡ b * q = div-eq_of_eq-mul_right pa e in
    let pbq : 0 < b * q = right_positive index a (b * q) (subst (λ (m : ℕ). index < m) e h.below) in
    let d : ways / a / b ≡ q = div-div-eq-div-mul ways a b in
    record {
      first = record { whole = e ∙ ap (λ (x : ℕ). a * x) (sym f); below = h.below };
      rest = record {
        whole = f ∙ ap (λ (x : ℕ). b * x) (sym d);
        below = mod-lt index (subst (λ (m : ℕ). 0 < m) (sym f) pbq);
      };
      ways_left = d;
      quotient = ap (λ (m : ℕ). index / m) f ∙ quotient_twice index b q;
      choice = ap (λ (m : ℕ). index % m / q) f ∙ rest_quotient index b q pbq pq;
      left = ap (λ (m : ℕ). index % m % q) f ∙ mod-mod_of_dvd q index (dvd-mul_left q b);
    }

-- ways that have a positive factor and an index are ways for a rest
pub rest_positive : {c ways index : ℕ} → Shared c ways index → 0 < ways / c
rest_positive {c} {ways} {index} h = right_positive index c (ways / c) (subst (λ (m : ℕ). index < m) h.whole h.below)

pub shared_as : {c d ways ways₁ index index₁ : ℕ} → c ≡ d → ways ≡ ways₁ → index ≡ index₁ → Shared d ways₁ index₁ → Shared c ways index
shared_as e f g h = record { whole = rw (e, f) h.whole; below = rw (f, g) h.below }
