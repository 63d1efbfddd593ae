-- The search for a text in a sheet by its windows, and what is spelled is a part of the sheet.
use Prim.Native.Nat.{ℕ, zero, suc, ◌+◌, ◌-◌, ◌<◌, ◌≤◌}
use mathlib.Core.Path.{◌≡◌, refl, sym, ap, ap₂, ◌∙◌}
use mathlib.Core.Bool.{Bool, true, false, ◌||◌, false≢true}
use mathlib.Core.List.{[], ◌∷◌}
use Rattle.std.specs.Prelude.{Option, Some, None, IsSomeAnd}
use lib.Dec.{eqb}
use lib.ListN.{length, take, drop, length-drop}
use lib.Seq.{take-nil, drop-nil}
use native.Mathlib.Omega.{arith}
use borrow.Author.Tests.{eq-eqb, eqb-true}
use Rattle.rules.specs.Bytes.{Text}
use Rattle.laws.specs.Parts.{PartOf}
use Rattle.laws.proofs.Basics.Tests.{and_left, and_right, and_both, or_left, or_right}
use Rattle.text.specs.Prefix.{begins_with}
use Rattle.fresh.specs.Searching.{spells, SpelledAt}

-- ---- a text that begins another

begins_part : (x s : Text) → begins_with x s ≡ true → (length x ≤ length s) × (take (length x) s ≡ x)
unfolding begins_with
begins_part [] s e = (omega arith, refl)
begins_part (k ∷ x) [] e = absurd (false≢true e)
begins_part (k ∷ x) (b ∷ s) e =
    let h = begins_part x s (and_right (eqb b k) (begins_with x s) e) in
    let z : b ≡ k = eqb-true b k (and_left (eqb b k) (begins_with x s) e) in
    (omega (arith, h.0), ap₂ {C = Text} (λ (c : ℕ) (l : Text). c ∷ l) z h.1)

begins_take : (n : ℕ) (s : Text) → begins_with (take n s) s ≡ true
unfolding begins_with
begins_take zero s = refl
begins_take (suc n) [] = refl
begins_take (suc n) (b ∷ s) = and_both (eqb b b) (begins_with (take n s) s) (eq-eqb b b refl) (begins_take n s)

-- ---- the search

-- the text stands in the sheet from a position on
abbrev pub Stands : Text → Text → ℕ → Type 0
Stands s x k = (k + length x ≤ length s) × (take (length x) (drop k s) ≡ x)

-- a text that does not stand from a position on does not begin there
not_begun : (s x : Text) (k : ℕ) → 0 < length x → (Stands s x k → ⊥) → begins_with x (drop k s) ≡ false
not_begun s x k some h = go (begins_with x (drop k s)) refl
  where
    go : (b : Bool) → begins_with x (drop k s) ≡ b → b ≡ false
    go false e = refl
    go true e = let p = begins_part x (drop k s) e in absurd (h (omega (arith, p.0, length-drop k s, some), p.1))

-- a text that begins nowhere is not spelled
begun_nowhere : (s x : Text) → ((k : ℕ) → begins_with x (drop k s) ≡ false) → spells s x ≡ false
unfolding spells
begun_nowhere [] x h = h 0
begun_nowhere (b ∷ s) x h = rw (h 0) (begun_nowhere s x (λ k. h (suc k)))

-- ---- what is spelled is a part, and every part is spelled

every_part : (s : Text) (a n : ℕ) → spells s (take n (drop a s)) ≡ true
unfolding spells begins_with
every_part [] a n = ap (λ (l : Text). begins_with l []) (ap (take n) (drop-nil a) ∙ take-nil n)
every_part (b ∷ s) zero n = or_left (begins_with (take n (b ∷ s)) (b ∷ s)) (spells s (take n (b ∷ s))) (begins_take n (b ∷ s))
every_part (b ∷ s) (suc a) n =
    ap (λ (t : Bool). begins_with (take n (drop a s)) (b ∷ s) || t) (every_part s a n) ∙ or_right (begins_with (take n (drop a s)) (b ∷ s))

pub part_is_spelled : (s x : Text) → PartOf s x → spells s x ≡ true
part_is_spelled s x (a, n, e) = ap (spells s) (sym e) ∙ every_part s a n

-- by the windows of the sheet, of which none is the text before the one that is found
module _ {A : Type 0} (s x : Text) (window : ℕ → Option A) (some : 0 < length x) where
  not_there : (k : ℕ) → (Stands s x k → IsSomeAnd (window k) (λ w. ⊥)) → begins_with x (drop k s) ≡ false
  not_there k h = not_begun s x k some (λ e. empty (window k) (h e))
    where
      empty : (o : Option A) → IsSomeAnd o (λ w. ⊥) → ⊥
      empty None h = h
      empty (Some w) h = h

  pub not_found : ((k : ℕ) → Stands s x k → IsSomeAnd (window k) (λ w. ⊥)) → spells s x ≡ false
  not_found never = begun_nowhere s x (λ k. not_there k (never k))

  pub found : (i : ℕ) → Stands s x i → ((k : ℕ) → k < i → Stands s x k → IsSomeAnd (window k) (λ w. ⊥)) → SpelledAt s x (record { from = i; to = i + length x })
  found i h before =
      let l : i + length x - i ≡ length x = omega arith in
      record {
        end = refl;
        inside = h.0;
        part = rw l h.1;
        spelled = part_is_spelled s x (i, length x, h.1);
        first = λ k p. not_there k (before k p);
      }
