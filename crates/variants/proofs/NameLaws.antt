-- The texts that a variable's cell may have for its name, and the cell of a key.
use Prim.Native.Nat.{ℕ, zero, suc, ◌<◌}
use mathlib.Core.Path.{◌≡◌, refl, sym}
use mathlib.Core.Bool.{true, false, not, true≢false}
use mathlib.Core.List.{List, [], ◌∷◌}
use native.Mathlib.Omega.{arith}
use native.Mathlib.Decide.{dec_lt}
use lib.Dec.{eqb}
use lib.ListN.{length, get_or, take, drop, length-drop}
use lib.Seq.{length-take-le}
use borrow.Author.Tests.{not-true, eq-eqb, ne_eqb, eqb-false}
use Rattle.rules.specs.Bytes.{Text}
use Rattle.tree.specs.Cells.{kind_of, start_of, length_of, named, name_at}
use Rattle.tree.specs.Arena.{Place, Arena}
use Rattle.tree.proofs.FixedNames.{fixed_some}
use Rattle.variants.specs.Members.{nameable}

-- ---- the test, byte by byte

pub nameable_none : (t : Text) → length t ≡ 0 → false ≡ nameable t
unfolding nameable
nameable_none [] e = refl
nameable_none (a ∷ n) e = absurd (omega arith)

pub nameable_one : (t : Text) → length t ≡ 1 → true ≡ nameable t
unfolding nameable
nameable_one [] e = absurd (omega arith)
nameable_one (a ∷ []) e = refl
nameable_one (a ∷ b ∷ n) e = absurd (omega arith)

pub nameable_more : (t : Text) → (length t ≡ 0 → ⊥) → not (eqb (get_or t 1 0) 40) ≡ nameable t
unfolding nameable
nameable_more [] h = absurd (h refl)
nameable_more (a ∷ n) h = refl

nameable_of : (t : Text) → 0 < length t → (get_or t 1 0 ≡ 40 → ⊥) → nameable t ≡ true
unfolding nameable
nameable_of [] p h = absurd (omega arith)
nameable_of (a ∷ n) p h = rw (ne_eqb (get_or n 0 0) 40 h)

pub nameable_some : (t : Text) → nameable t ≡ true → 0 < length t
unfolding nameable
nameable_some [] e = absurd (true≢false (sym e))
nameable_some (a ∷ n) e = omega arith

pub nameable_plain : (t : Text) → nameable t ≡ true → get_or t 1 0 ≡ 40 → ⊥
unfolding nameable
nameable_plain [] e = absurd (true≢false (sym e))
nameable_plain (a ∷ n) e = eqb-false (get_or n 0 0) 40 (not-true (eqb (get_or n 0 0) 40) e)

-- ---- the names of cells

name_some : (s : Text) (a n : ℕ) → Place s a n → 0 < length (named s a n)
unfolding named
name_some s a n p = elim (dec_lt 0 n) [
  | yes h ↦ rw (ne_eqb n 0 (omega arith)) (omega (arith, p.inside h, length-take-le n (drop a s) (omega (arith, p.inside h, length-drop a s))))
  | no h ↦ rw (eq-eqb n 0 (omega arith)) (fixed_some a (p.code (omega arith)).0).0
]

pub cell_nameable : {s : Text} {w : List ℕ} {n : ℕ} → Arena s w n → (k : ℕ) → 0 < k → k < n → kind_of w k < 7 → nameable (name_at s w k) ≡ true
unfolding name_at
cell_nameable {s} {w} a k p q small =
    let h = a.cell k p q in
    nameable_of (name_at s w k) (name_some s (start_of w k) (length_of w k) h.placed) (h.plain small)

-- ---- a text that is not empty

pub part_some : (l : ℕ) (t : Text) → 0 < length (take l t) → 0 < l
part_some zero t h = absurd (omega arith)
part_some (suc l) t h = omega arith
