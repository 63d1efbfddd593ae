-- What the library's tests on lists say, in the words of the rules.
use Rattle.std.proofs.Common.{◌≡◌, ℕ, ◌+◌, Bool, true, false, cond, ◌&&◌, ◌||◌, List, [], ◌∷◌, length, take, refl, ap, ap₂, arith}
use Rattle.std.specs.Prelude.{position, option_map}
use Rattle.std.specs.List.{list_all, position_or_len}
use Rattle.std.specs.Cmp.Lexicographic.{pointwise, slice_partial_cmp}
use Rattle.std.specs.Ordering.{nat_cmp, as_partial_cmp, partial_le, is_le, is_some_and, partial_ordering_then}
use Rattle.std.specs.declared.cmp.Ordering.TheVariants.{Less, Equal, Greater}
use Rattle.std.specs.Prelude.{Some, None}
use Rattle.std.proofs.lemmas.Bool.Decides.{nat_tests}
use Prim.Native.Nat.{suc}
use mathlib.Core.Bool.{not}
use lib.Dec.{eqb, ltb}
use Rattle.rules.specs.Bytes.{same, upto}
use Rattle.rules.specs.Names.{all}
use Rattle.text.specs.Prefix.{begins_with}
use Rattle.text.proofs.Sameness.{eqb_swap}

pub or_turned : (a b c : Bool) → (a || b) || c ≡ (b || c) || a
or_turned true true c = refl
or_turned true false true = refl
or_turned true false false = refl
or_turned false true c = refl
or_turned false false true = refl
or_turned false false false = refl

pub same_is : (a b : List ℕ) → pointwise eqb a b ≡ same a b
unfolding same
same_is [] [] = refl
same_is [] (y ∷ b) = refl
same_is (x ∷ a) [] = refl
same_is (x ∷ a) (y ∷ b) = ap (λ (t : Bool). eqb x y && t) (same_is a b)

pub all_is : (p : ℕ → Bool) (s : List ℕ) → list_all p s ≡ all p s
unfolding all
all_is p [] = refl
all_is p (x ∷ s) = ap (λ (t : Bool). p x && t) (all_is p s)

pub begins_is : (k s : List ℕ) → pointwise eqb k (take (length k) s) ≡ begins_with k s
unfolding begins_with
begins_is [] s = refl
begins_is (x ∷ k) [] = refl
begins_is (x ∷ k) (y ∷ s) = ap₂ ◌&&◌ (eqb_swap x y) (begins_is k s)

pub upto_is : (a b : List ℕ) → partial_le (slice_partial_cmp (as_partial_cmp nat_cmp)) a b ≡ upto a b
unfolding upto
upto_is [] [] = refl
upto_is [] (y ∷ b) = refl
upto_is (x ∷ a) [] = refl
upto_is (x ∷ a) (y ∷ b) = go (ltb x y) (eqb x y) (upto_is a b)
  where
    go : (s t : Bool) → partial_le (slice_partial_cmp (as_partial_cmp nat_cmp)) a b ≡ upto a b
        → is_some_and is_le (partial_ordering_then (Some (cond s Less (cond t Equal Greater))) (slice_partial_cmp (as_partial_cmp nat_cmp) a b)) ≡ s || (t && upto a b)
    go true t e = refl
    go false true e = e
    go false false e = refl

-- where the first byte stands that passes, by the byte in front
pub position_more : (p : ℕ → Bool) (b : ℕ) (s : List ℕ) → position p (b ∷ s) ≡ cond (p b) (Some 0) (option_map suc (position p s))
position_more p b s = go (p b) (position_or_len p s) (length s)
  where
    go : (t : Bool) (n l : ℕ)
        → cond (ltb (cond (not t) (1 + n) 0) (suc l)) (Some (cond (not t) (1 + n) 0)) None ≡ cond t (Some 0) (option_map suc (cond (ltb n l) (Some n) None))
    go true n l = grind (arith, nat_tests)
    go false n l = grind (arith, nat_tests)
