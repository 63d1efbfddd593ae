-- Texts with neither a blank nor byte 10: names, written terms, decimal numbers.
use mathlib.Core.Path.{◌≡◌, refl, ap}
use mathlib.Core.Bool.{Bool, true, false, not}
use mathlib.Core.List.{[], ◌∷◌, ◌++◌}
use Prim.Native.Nat.{ℕ}
use lib.Dec.{eqb}
use Rattle.rules.specs.Bytes.{Text}
use Rattle.rules.specs.Names.{digit, alphabetic, alphanumeric, all, number, word, variable_token, letter}
use Rattle.rules.specs.Tree.{Tree, Trees, none, more, tamtplus}
use Rattle.rules.specs.Writing.{render, renders, listed, commas}
use Rattle.rules.specs.Tidy.{Built, a_variable, an_atom, a_leaf, a_list, a_sum, Builts, nil, both}
use Rattle.laws.specs.Laying.{solid}
use Rattle.laws.proofs.Basics.Tests.{and_both}
use Rattle.laws.proofs.Basics.Bytes.{not_byte, all_both, all_more, all_weaker}
use Rattle.laws.proofs.Basics.Spelling.{name_byte, number_bytes, word_bytes, variable_bytes, token_bytes}

solid_by : (p : ℕ → Bool) → p 10 ≡ false → p 32 ≡ false → (x : ℕ) → p x ≡ true → solid x ≡ true
solid_by p k j x h =
    and_both (not (eqb x 10)) (not (eqb x 32)) (ap not (not_byte p 10 k x h)) (ap not (not_byte p 32 j x h))

solid_bytes : (n : Text) → all name_byte n ≡ true → all solid n ≡ true
unfolding alphanumeric alphabetic digit
solid_bytes = all_weaker name_byte solid (solid_by name_byte refl refl)

pub number_solid : (n : Text) → number n ≡ true → all solid n ≡ true
number_solid n e = solid_bytes n (number_bytes n e)

pub word_solid : (n : Text) → word n ≡ true → all solid n ≡ true
word_solid n e = solid_bytes n (word_bytes n e)

pub variable_solid : (x : Text) → variable_token x ≡ true → all solid x ≡ true
variable_solid x e = solid_bytes x (variable_bytes x e)

solid_letter : (c : ℕ) → letter c ≡ true → solid c ≡ true
unfolding letter
solid_letter = solid_by letter refl refl

listed_solid : (f t s : Text) → all solid f ≡ true → all solid t ≡ true → all solid s ≡ true
    → all solid (((f ++ (40 ∷ t)) ++ s) ++ (41 ∷ [])) ≡ true
unfolding all
listed_solid f t s p q r =
    all_both solid ((f ++ (40 ∷ t)) ++ s) (41 ∷ []) (all_both solid (f ++ (40 ∷ t)) s (all_both solid f (40 ∷ t) p (all_more solid 40 t refl q)) r) refl

mutual
  unfolding render listed commas all

  pub render_solid : {t : Tree} → Built t → all solid (render t) ≡ true
  render_solid (a_variable {x} v) = variable_solid x v
  render_solid (an_atom {c} {d} l n) = all_more solid c (40 ∷ (d ++ (41 ∷ []))) (solid_letter c l) (all_more solid 40 (d ++ (41 ∷ [])) refl (all_both solid d (41 ∷ []) (number_solid d n) refl))
  render_solid (a_leaf {f} w) = word_solid f w
  render_solid (a_list {f} {t} {ts} w l q b bs) = listed_solid f (render t) (commas (renders ts)) (solid_bytes f (token_bytes f w)) (render_solid b) (commas_solid bs)
  render_solid (a_sum {a} {b} p q) =
      listed_solid tamtplus (render a) (commas (renders (more b none))) refl (render_solid p)
      (all_more solid 44 (render b ++ []) refl (all_both solid (render b) [] (render_solid q) refl))

  commas_solid : {ts : Trees} → Builts ts → all solid (commas (renders ts)) ≡ true
  commas_solid nil = refl
  commas_solid (both {t} {ts} b bs) = all_more solid 44 (render t ++ commas (renders ts)) refl (all_both solid (render t) (commas (renders ts)) (render_solid b) (commas_solid bs))
