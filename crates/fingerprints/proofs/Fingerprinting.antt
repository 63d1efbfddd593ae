-- Fingerprints, carried on through a text byte by byte and word by word.
use Prim.Native.Nat.{ℕ, zero, suc, ◌+◌, ◌*◌, ◌<◌, ◌%◌}
use mathlib.Core.Path.{◌≡◌, refl, sym, ap, ◌∙◌}
use mathlib.Core.List.{List, [], ◌∷◌, ◌++◌, append-nil}
use lib.ListN.{length, get_or, take}
use native.Mathlib.Omega.{arith}
use borrow.Author.Tests.{eq-eqb, ne_eqb}
use Rattle.std.proofs.lemmas.List.{take_more}
use Rattle.rules.specs.Text.{bytes}
use Rattle.laws.specs.Unspelled.{zeros, zeros_name}
use Rattle.runs.specs.Texts.{word_text, texts}
use Rattle.runs.proofs.WordTexts.{texts_append}
use Rattle.fingerprints.specs.Fingerprints.{mixed_byte, mixed}

-- through one text after another, and through one byte more
pub mixed_append : (h : ℕ) (a b : List ℕ) → mixed h (a ++ b) ≡ mixed (mixed h a) b
unfolding mixed
mixed_append h [] b = refl
mixed_append h (x ∷ a) b = mixed_append (mixed_byte h x) a b

pub mixed_push : (h : ℕ) (t : List ℕ) (b : ℕ) → mixed h (t ++ (b ∷ [])) ≡ mixed_byte (mixed h t) b
unfolding mixed
mixed_push h t b = mixed_append h t (b ∷ [])

-- through no byte
pub mixed_none : (h : ℕ) → h ≡ mixed h []
unfolding mixed
mixed_none h = refl

-- ---- a byte

pub byte_zero : (h b v : ℕ) → b ≡ 48 → v ≡ h → (v + 2654435769) % 4294967296 ≡ mixed_byte h b
unfolding mixed_byte
byte_zero h b v z e = rw (e, eq-eqb b 48 z)

pub byte_other : (h b v w : ℕ) → (b ≡ 48 → ⊥) → v ≡ h → w ≡ b → (v * 16777619 + w) % 4294967296 ≡ mixed_byte h b
unfolding mixed_byte
byte_other h b v w n e f = rw (e, f, ne_eqb b 48 n)

-- ---- a run of zeros

mixed_zeros : (n h : ℕ) (t : List ℕ) → h < 4294967296 → mixed h (zeros n ++ t) ≡ mixed ((h + n * 2654435769) % 4294967296) t
unfolding zeros mixed mixed_byte
mixed_zeros zero h t l = let e : h ≡ (h + 0 * 2654435769) % 4294967296 = omega arith in ap (λ (h : ℕ). mixed h t) e
mixed_zeros (suc n) h t l =
    let k = (h + 2654435769) % 4294967296 in
    let e : (k + n * 2654435769) % 4294967296 ≡ (h + suc n * 2654435769) % 4294967296 = omega arith in
    mixed_zeros n k t (omega arith) ∙ ap (λ (h : ℕ). mixed h t) e

pub mixed_name : (n h f v r : ℕ) → f < 4294967296 → f ≡ mixed_byte h 120 → v ≡ f → r ≡ mixed ((v + n * 2654435769) % 4294967296) (bytes ":Msg") → r ≡ mixed h (zeros_name n)
unfolding mixed
mixed_name n h f v r l e k g =
    g ∙ ap (λ (v : ℕ). mixed ((v + n * 2654435769) % 4294967296) (bytes ":Msg")) k
    ∙ sym (mixed_zeros n f (bytes ":Msg") l) ∙ ap (λ (f : ℕ). mixed f (zeros n ++ bytes ":Msg")) e

-- ---- the text of a run of words

texts_one : (s : List ℕ) (x : ℕ) → texts s (x ∷ []) ≡ word_text s x
unfolding texts
texts_one s x = append-nil (word_text s x)

pub texts_none : (h : ℕ) (s : List ℕ) → h ≡ mixed h (texts s [])
unfolding mixed texts
texts_none h s = refl

pub texts_more : (h : ℕ) (s w : List ℕ) (i : ℕ) → i < length w → mixed h (texts s (take (i + 1) w)) ≡ mixed (mixed h (texts s (take i w))) (word_text s (get_or w i 0))
texts_more h s w i l =
    let x = get_or w i 0 in
    ap (λ (t : List ℕ). mixed h (texts s t)) (take_more w i 0 l)
    ∙ ap (mixed h) (texts_append s (take i w) (x ∷ []))
    ∙ mixed_append h (texts s (take i w)) (texts s (x ∷ []))
    ∙ ap (mixed (mixed h (texts s (take i w)))) (texts_one s x)

-- ---- words with their fingerprint
