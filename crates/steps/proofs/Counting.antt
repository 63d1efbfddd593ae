-- How many trees two lists of cells have, cell by cell.
use Prim.Native.Nat.{ℕ, zero, suc, ◌+◌, ◌<◌, ◌≤◌}
use mathlib.Core.Path.{◌≡◌, refl, sym, ap, ◌∙◌}
use mathlib.Core.Logic.{◌⊎◌, inl, inr}
use mathlib.Core.List.{List}
use borrow.Author.Tests.{eq-eqb, ne_eqb}
use native.Mathlib.Omega.{arith}
use Rattle.rules.specs.Bytes.{Text}
use Rattle.rules.specs.Tree.{Trees, count}
use Rattle.tree.specs.Cells.{next_of, trees_at}
use Rattle.tree.specs.Arena.{Links}
use Rattle.tree.proofs.Decoding.{trees_none, trees_more}
use Rattle.elimination.specs.Differing.{common_count}

-- k trees of the list from cell x on stand before cell a
abbrev Counted : List ℕ → ℕ → ℕ → ℕ → Type 0
Counted w x k a = (s : Text) → count (trees_at s w x) ≡ k + count (trees_at s w a)

counted_next : (w : List ℕ) (x k : ℕ) {n a i : ℕ} → Links w n → 0 < a → a < n → i ≡ next_of w a → Counted w x k a → Counted w x (k + 1) i
counted_next w x k {a = a} {i = i} o p q e c s =
    let f : count (trees_at s w a) ≡ suc (count (trees_at s w i)) = ap (λ (vs : Trees). count vs) (trees_more s o a p q) ∙ ap (λ (j : ℕ). suc (count (trees_at s w j))) (sym e) in
    let g = c s in
    omega arith

counted_end : (w : List ℕ) (x k : ℕ) {a : ℕ} → a ≡ 0 → Counted w x k a → (s : Text) → count (trees_at s w x) ≡ k
counted_end w x k {a} e c s =
    let f : count (trees_at s w a) ≡ 0 = ap (λ (vs : Trees). count vs) (trees_none s w a e) in
    let g = c s in
    omega arith

-- a list of no trees has no cell
counted_none : (s : Text) {w : List ℕ} {n a : ℕ} → Links w n → a < n → count (trees_at s w a) ≡ 0 → a ≡ 0
counted_none s {w} {a = zero} o q e = refl
counted_none s {w} {a = suc a} o q e =
    let f : count (trees_at s w (suc a)) ≡ suc (count (trees_at s w (next_of w (suc a)))) = ap (λ (vs : Trees). count vs) (trees_more s o (suc a) (omega arith) q) in
    absurd (omega arith)

-- k trees of the lists from cells x and y on stand before cells a and b
pub record Counting (w : List ℕ) (n x y a b k : ℕ) : Type 0 where
  pub left_inside : a < n
  pub right_inside : b < n
  pub within : k + a ≤ x
  pub left : Counted w x k a
  pub right : Counted w y k b

pub counting_start : {w : List ℕ} {n x y : ℕ} → x < n → y < n → Counting w n x y x y 0
counting_start p q = record { left_inside = p; right_inside = q; within = omega arith; left = λ s. omega arith; right = λ s. omega arith }

module _ {w : List ℕ} {n x y a b k : ℕ} (h : Counting w n x y a b k) where
  pub counting_next : {i j : ℕ} → Links w n → 0 < a → 0 < b → (i ≡ next_of w a) × (i < a) → (j ≡ next_of w b) × (j < b) → Counting w n x y i j (k + 1)
  counting_next o p q e f = record {
    left_inside = omega (arith, e.1, h.left_inside);
    right_inside = omega (arith, f.1, h.right_inside);
    within = omega (arith, e.1, h.within);
    left = counted_next w x k o p h.left_inside e.0 h.left;
    right = counted_next w y k o q h.right_inside f.0 h.right;
  }

  pub counting_end : a ≡ 0 → b ≡ 0 → (s : Text) → k ≡ common_count (trees_at s w x) (trees_at s w y)
  unfolding common_count
  counting_end e f s =
      let i = counted_end w x k e h.left s in
      let j = counted_end w y k f h.right s in
      sym (rw (eq-eqb (count (trees_at s w x)) (count (trees_at s w y)) (i ∙ sym j)) i)

  -- one list ends before the other
  pub counting_apart : Links w n → (a ≡ 0 → b ≡ 0 → ⊥) → (a ≡ 0) ⊎ (b ≡ 0) → (s : Text) → 0 ≡ common_count (trees_at s w x) (trees_at s w y)
  unfolding common_count
  counting_apart o u v s =
      let i = h.left s in
      let j = h.right s in
      rw (ne_eqb (count (trees_at s w x)) (count (trees_at s w y)) (λ z. u (counted_none s o h.left_inside ((counts v).0 z)) (counted_none s o h.right_inside ((counts v).1 z))))
    where
      counts : (a ≡ 0) ⊎ (b ≡ 0) → (count (trees_at s w x) ≡ count (trees_at s w y) → count (trees_at s w a) ≡ 0) × (count (trees_at s w x) ≡ count (trees_at s w y) → count (trees_at s w b) ≡ 0)
      counts (inl e) = let c : count (trees_at s w a) ≡ 0 = ap (λ (vs : Trees). count vs) (trees_none s w a e) in let i = h.left s in let j = h.right s in ((λ z. c), λ z. omega arith)
      counts (inr e) = let c : count (trees_at s w b) ≡ 0 = ap (λ (vs : Trees). count vs) (trees_none s w b e) in let i = h.left s in let j = h.right s in ((λ z. omega arith), λ z. c)
