-- The words of a tree by its cells.
use Prim.Native.Nat.{ℕ, ◌+◌, ◌-◌, ◌*◌, ◌<◌, ◌/◌, ◌%◌}
use mathlib.Core.Path.{◌≡◌, sym, ap, ◌∙◌}
use mathlib.Core.List.{List, [], ◌∷◌}
use lib.ListN.{get_or}
use native.Mathlib.Omega.{arith}
use borrow.Author.Tests.{eq-eqb, ne_eqb}
use Rattle.rules.specs.Bytes.{Text}
use Rattle.tree.specs.Cells.{start_of, length_of, fixed_name, named, name_at}
use Rattle.tree.specs.Arena.{Cell}
use Rattle.runs.specs.declared.TheConstants.{SPAN, PLUS}
use Rattle.runs.specs.declared.order.TheConstants.{BYTES}
use Rattle.runs.specs.Texts.{word_text}
use Rattle.flattening.specs.Spelling.{Word}
use Rattle.runs.proofs.Pieces.{name_fixed}
use Rattle.runs.proofs.WordTexts.{code_named, code_byte, text_mark, text_place}

-- ---- the word of a name

-- the word of a code from 257 on
code_word : (s : Text) (c x : ℕ) → x ≡ c * 65536 → 256 < c → Word s x
code_word s c x e h = record {
  token = record { placed = λ p. absurd (omega arith) };
  plain = record { no_open = λ f. omega arith; no_shut = λ f. omega arith; no_comma = λ f. omega arith };
  other = λ f. omega arith;
}

module _ (s : Text) (w : List ℕ) (k x : ℕ) (h : Cell s w k) (e : x ≡ get_or w (4 * k) 0) where
  pub word_placed : (x % 65536 ≡ 0 → ⊥) → Word s x × (word_text s x ≡ name_at s w k)
  unfolding start_of length_of name_at named
  word_placed z =
      let p = h.placed.inside in
      let q : get_or w (4 * k) 0 % 65536 ≡ 0 → ⊥ = λ f. z (ap (λ (x : ℕ). x % 65536) e ∙ f) in (
        record {
          token = record { placed = λ f. (let g = p (omega arith) in omega arith) };
          plain = record { no_open = λ f. z (omega arith); no_shut = λ f. z (omega arith); no_comma = λ f. z (omega arith) };
          other = λ f. z (omega arith);
        },
        text_place s x z ∙ rw (e, ne_eqb (get_or w (4 * k) 0 % 65536) 0 q),
      )

  pub code_small : x % 65536 ≡ 0 → (0 < x / 65536) × (x / 65536 < 31)
  unfolding start_of length_of
  code_small z = rw e (h.placed.code (ap (λ (x : ℕ). x % 65536) (sym e) ∙ z))

  pub word_coded : (y : ℕ) → y ≡ x + PLUS → x % 65536 ≡ 0 → Word s y × (word_text s y ≡ name_at s w k)
  unfolding start_of length_of name_at named
  word_coded y f z =
      let c = code_small z in
      let a = x / 65536 in
      let g : y ≡ (a + 256) * 65536 = omega arith in
      let m : y % 65536 ≡ 0 = omega arith in
      let d : y / 65536 ≡ a + 256 = omega arith in
      let b : a + 256 - 256 ≡ a = omega arith in
      let q : get_or w (4 * k) 0 % 65536 ≡ 0 = ap (λ (x : ℕ). x % 65536) (sym e) ∙ z in
      let n : name_at s w k ≡ fixed_name a = (rw (eq-eqb (get_or w (4 * k) 0 % 65536) 0 q)) ∙ ap (λ (x : ℕ). fixed_name (x / 65536)) (sym e) in
      (code_word s (a + 256) y g (omega arith), text_mark s y m ∙ rw d ((code_named (a + 256) (omega arith) (omega arith)).0 ∙ rw b (name_fixed a (omega arith) ∙ sym n)))

-- a letter
module _ (s : Text) (k x : ℕ) (e : x ≡ (BYTES + k) * SPAN) (h : k < 256) where
  pub letter_word : Word s x
  letter_word = code_word s (BYTES + k) x e (omega arith)

  pub letter_text : word_text s x ≡ k ∷ []
  letter_text =
      let m : x % 65536 ≡ 0 = omega arith in
      let d : x / 65536 ≡ BYTES + k = omega arith in
      let b : (BYTES + k) % 256 ≡ k = omega arith in
      text_mark s x m ∙ rw d ((code_byte (BYTES + k) (omega arith)).0 ∙ rw b)
