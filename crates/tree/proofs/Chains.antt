-- The cells of the lists of an area, and their counts of nodes.
use Prim.Native.Nat.{ℕ, zero, suc, ◌<◌, ◌≤◌}
use mathlib.Core.Path.{◌≡◌, refl, sym, ap}
use mathlib.Core.List.{[], ◌∷◌}
use lib.ListN.{length, get_or}
use native.Mathlib.Omega.{arith}
use Rattle.tree.specs.declared.area.Area.{Area}
use Rattle.std.proofs.lemmas.List.Sums.{sum_by-cons}
use Rattle.std.specs.List.{sum_by}
use Rattle.rules.specs.Tree.{size, sizes}
use Rattle.tree.specs.Areas.{count_in, next_in, trees_in}
use Rattle.tree.proofs.Lists.{list_none, list_size, count_size}
use Rattle.tree.specs.Lists.{chained, cells_from}

chained_end : (a : Area) (f : ℕ) → [] ≡ chained f a zero
unfolding chained
chained_end a zero = refl
chained_end a (suc f) = refl

chained_deep : (a : Area) (f g k : ℕ) → k ≤ f → k ≤ g → k < a.free → chained f a k ≡ chained g a k
unfolding chained
chained_deep a zero g zero p q r = chained_end a g
chained_deep a zero g (suc k) p q r = absurd (omega arith)
chained_deep a (suc f) g zero p q r = chained_end a g
chained_deep a (suc f) zero (suc k) p q r = absurd (omega arith)
chained_deep a (suc f) (suc g) (suc k) p q r = let n = a.arena.links.next (suc k) (omega arith) r in ap (λ ks. suc k ∷ ks) (chained_deep a f g (next_in a (suc k)) (omega arith) (omega arith) (omega arith))

pub cells_none : (a : Area) (k : ℕ) → k ≡ 0 → cells_from a k ≡ []
unfolding cells_from
cells_none a k e = rw e refl

pub cells_more : (a : Area) (k : ℕ) → 0 < k → k < a.free → cells_from a k ≡ k ∷ cells_from a (next_in a k)
unfolding cells_from chained
cells_more a zero p q = absurd (omega arith)
cells_more a (suc k) p q = let n = a.arena.links.next (suc k) (omega arith) q in ap (λ ks. suc k ∷ ks) (chained_deep a k (next_in a (suc k)) (next_in a (suc k)) (omega arith) (omega arith) (omega arith))

-- each cell is one of the area, at the list's first or below it
within : (a : Area) (f k : ℕ) → k ≤ f → k < a.free → (x i : ℕ) → i < length (chained f a k) → x ≡ get_or (chained f a k) i x → (0 < x) × (x ≤ k)
unfolding chained
within a zero k p q x i l e = absurd (omega arith)
within a (suc f) zero p q x i l e = absurd (omega arith)
within a (suc f) (suc k) p q x zero l e = (omega arith, omega arith)
within a (suc f) (suc k) p q x (suc i) l e =
    let n = a.arena.links.next (suc k) (omega arith) q in
    let h = within a f (next_in a (suc k)) (omega arith) (omega arith) x i (omega arith) e in
    (h.0, omega (arith, h.1))

pub cells_within : (a : Area) (k : ℕ) → k < a.free → (x i : ℕ) → i < length (cells_from a k) → x ≡ get_or (cells_from a k) i x → (0 < x) × (x ≤ k)
unfolding cells_from
cells_within a k q x i l e = within a k k (omega arith) q x i l e

-- the counts of the cells of a list
module _ (a : Area) where
  counted : (f k : ℕ) → k ≤ f → k < a.free → sum_by (count_in a) (chained f a k) ≡ sizes (trees_in a k)
  unfolding chained size
  counted zero zero p q = sym (ap sizes (list_none a zero refl))
  counted zero (suc k) p q = absurd (omega arith)
  counted (suc f) zero p q = sym (ap sizes (list_none a zero refl))
  counted (suc f) (suc k) p q =
      let n = a.arena.links.next (suc k) (omega arith) q in
      let c = count_size a (suc k) (omega arith) q refl in
      let s = list_size a (suc k) (omega arith) q refl in
      omega (arith, sum_by-cons (count_in a) (suc k) (chained f a (next_in a (suc k))), c, s, counted f (next_in a (suc k)) (omega arith) (omega arith))

  pub cells_counted : (k : ℕ) → k < a.free → sum_by (count_in a) (cells_from a k) ≡ sizes (trees_in a k)
  unfolding cells_from
  cells_counted k q = counted k k (omega arith) q
