-- A text against a name that no sheet spells: its x, its zeros, its end.
use Prim.Native.Nat.{ℕ, zero, suc, ◌+◌, ◌-◌, ◌≤◌}
use mathlib.Core.Path.{◌≡◌, refl, sym, ap, ap₂, ◌∙◌}
use mathlib.Core.Bool.{Bool, true, false, ◌&&◌, true≢false}
use mathlib.Core.List.{[], ◌∷◌, ◌++◌}
use lib.Dec.{eqb}
use lib.ListN.{length, take, drop, set, replicate, length-append, length-set, length-take, length-drop, take-append-drop}
use lib.Pointwise.{pointwise}
use lib.Seq.{drop-append_seam}
use native.Mathlib.Omega.{arith}
use borrow.Rule.Slice.PartMut.{put_mid}
use borrow.Author.Tests.{ne_eqb}
use Rattle.std.specs.List.{list_all}
use Rattle.rules.specs.Bytes.{Text, same}
use Rattle.rules.specs.Text.{bytes}
use Rattle.laws.specs.Unspelled.{zeros, unspelled}
use Rattle.laws.proofs.Basics.Tests.{same_eq, differ_of_ne}
use Rattle.laws.proofs.Renaming.Unspelled.{unspelled_length}
use Rattle.text.specs.Printing.{Printed}
use Rattle.tree.proofs.Printing.{put_part, written_byte, length_written, printed_then}
use Rattle.text.proofs.Library.{same_is}
use Rattle.text.proofs.Sameness.{eqb_swap, same_lengths}

abbrev msg : Text
msg = bytes ":Msg"

zeros_length : (n : ℕ) → length (zeros n) ≡ n
unfolding zeros
zeros_length zero = refl
zeros_length (suc n) = ap suc (zeros_length n)

-- where one name is a text, the text begins with its x and ends as it does
unless : {b : Bool} (s t : Text) → (s ≡ t → b ≡ true) → b ≡ false → false ≡ same s t
unless s t f e = sym (differ_of_ne (λ h. true≢false (sym (f h) ∙ e)))

pub no_x : (n : ℕ) (t : Text) → pointwise eqb (take 1 t) (120 ∷ []) ≡ false → false ≡ same (unspelled n) t
unfolding unspelled
no_x n t e = unless (unspelled n) t (λ h. ap (λ (y : Text). pointwise eqb (take 1 y) (120 ∷ [])) (sym h)) e

end_there : (n : ℕ) → drop (length (zeros n ++ msg) - 4) (zeros n ++ msg) ≡ msg
end_there n =
    let e : length (zeros n ++ msg) - 4 ≡ length (zeros n) = omega (arith, length-append (zeros n) msg) in
    ap (λ (k : ℕ). drop k (zeros n ++ msg)) e ∙ drop-append_seam (zeros n) msg

pub no_end : (n : ℕ) (t : Text) {r : Text} → r ≡ drop 1 t → pointwise eqb (drop (length r - 4) r) msg ≡ false → false ≡ same (unspelled n) t
unfolding unspelled
no_end n t {r} d e =
    unless (unspelled n) t
    (λ h. (let g : r ≡ zeros (65536 + n) ++ msg = d ∙ ap (drop 1) (sym h) in
    ap (λ (y : Text). pointwise eqb (drop (length y - 4) y) msg) g ∙ ap (λ (y : Text). pointwise eqb y msg) (end_there (65536 + n))))
    e

-- a text between them
text_is : (t : Text) {r z : Text} → pointwise eqb (take 1 t) (120 ∷ []) ≡ true → r ≡ drop 1 t → pointwise eqb (drop (length r - 4) r) msg ≡ true → z ≡ take (length r - 4) r → t ≡ 120 ∷ (z ++ msg)
text_is t {r} {z} e d f g =
    let a : take 1 t ≡ 120 ∷ [] = same_eq _ _ (sym (same_is (take 1 t) (120 ∷ [])) ∙ e) in
    let b : drop (length r - 4) r ≡ msg = same_eq _ _ (sym (same_is (drop (length r - 4) r) msg) ∙ f) in
    let w : r ≡ z ++ msg = sym (take-append-drop (length r - 4) r) ∙ ap₂ ◌++◌ (sym g) b in
    sym (take-append-drop 1 t) ∙ ap₂ ◌++◌ a (sym d ∙ w)

all_zeros : (m n : ℕ) (z : Text) → length z ≡ n → same (zeros n ++ msg) (z ++ msg) ≡ list_all (λ y. eqb y 48) z
unfolding zeros same
all_zeros m zero [] e = refl
all_zeros m zero (y ∷ z) e = absurd (omega (arith, e))
all_zeros m (suc n) [] e = absurd (omega (arith, e))
all_zeros m (suc n) (y ∷ z) e = ap₂ ◌&&◌ (eqb_swap 48 y) (all_zeros m n z (omega (arith, e)))

module _ (n : ℕ) (t : Text) {r z : Text} (e : pointwise eqb (take 1 t) (120 ∷ []) ≡ true) (d : r ≡ drop 1 t) (f : pointwise eqb (drop (length r - 4) r) msg ≡ true) (g : z ≡ take (length r - 4) r) where
  pub zeros_between : length z ≡ 65536 + n → list_all (λ y. eqb y 48) z ≡ same (unspelled n) t
  unfolding unspelled same
  zeros_between l = sym (ap (same (unspelled n)) (text_is t e d f g) ∙ all_zeros 0 (65536 + n) z l)

  pub other_length : (length z ≡ 65536 + n → ⊥) → eqb (length z) (65536 + n) ≡ same (unspelled n) t
  unfolding unspelled
  other_length h =
      ne_eqb (length z) (65536 + n) h
      ∙ sym (ap (same (unspelled n)) (text_is t e d f g) ∙ same_lengths (unspelled n) (120 ∷ (z ++ msg)) (λ k. h (omega (arith, k, zeros_length (65536 + n), length-append (zeros (65536 + n)) msg, length-append z msg))))

-- the name written, part by part
zeros_replicate : (n : ℕ) → replicate n 48 ≡ zeros n
unfolding zeros
zeros_replicate zero = refl
zeros_replicate (suc n) = ap (λ (z : Text). 48 ∷ z) (zeros_replicate n)

module _ (out : Text) (at n : ℕ) {k : ℕ} {v : Text} (room : at + length (unspelled n) ≤ length out) (e : k ≡ 65536 + n) (f : v ≡ replicate (length (take k (drop (at + 1) (set out at 120)))) 48) where
  abbrev with_x : Text
  with_x = set out at 120

  abbrev with_zeros : Text
  with_zeros = put_mid (at + 1) k with_x v

  first_put : Printed out with_x at (120 ∷ []) (at + 1)
  first_put = record { bytes = written_byte out at 120 (omega (arith, room, unspelled_length n)); end = refl }

  zeros_put : Printed with_x with_zeros (at + 1) (zeros (65536 + n)) (at + 1 + 65536 + n)
  zeros_put =
      let u : length (take k (drop (at + 1) with_x)) ≡ 65536 + n = simp (length-take, length-drop, length-set) (omega (arith, room, e, unspelled_length n)) in
      let z : v ≡ zeros (65536 + n) = f ∙ ap (λ (m : ℕ). replicate m 48) u ∙ zeros_replicate (65536 + n) in
      let l = zeros_length (65536 + n) in
      record { bytes = put_part with_x (at + 1) (omega (arith, e, l)) z; end = omega (arith, l) }

  pub zeros_room : at + 1 + 65536 + n + 4 ≤ length with_zeros
  zeros_room =
      let l = zeros_length (65536 + n) in
      let u = unspelled_length n in
      omega (arith, room, u, l, length-set out at 120, ap length zeros_put.bytes, length_written with_x (at + 1) (zeros (65536 + n)) (omega (arith, room, u, l, length-set out at 120)))

  pub name_put : {w : Text} {r : ℕ} → Printed with_zeros w (at + 1 + 65536 + n) msg r → Printed out w at (unspelled n) r
  unfolding unspelled
  name_put p =
      let l = zeros_length (65536 + n) in
      let u = unspelled_length n in
      printed_then (omega (arith, room, u)) first_put (printed_then (omega (arith, room, u, l, length-set out at 120)) zeros_put p)
