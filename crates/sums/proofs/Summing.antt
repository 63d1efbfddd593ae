-- Sums built from cells, the last cell first.
use Prim.Native.Nat.{ℕ, suc, ◌+◌, ◌-◌, ◌*◌, ◌<◌, ◌≤◌}
use mathlib.Core.Path.{◌≡◌, refl, sym, ap, ap₂, ◌∙◌}
use mathlib.Core.Bool.{true}
use mathlib.Core.List.{List, [], ◌∷◌, ◌++◌}
use lib.ListN.{length, get_or}
use lib.Seq.{slice, slice-cons, length-slice}
use native.Mathlib.Omega.{arith}
use Rattle.std.specs.Prelude.{Option, Some, None}
use Rattle.rules.specs.Bytes.{Text}
use Rattle.rules.specs.Tree.{Tree, apply, Trees, none, more, size, sizes, plus}
use Rattle.rules.specs.Sums.{rebuild}
use Rattle.text.proofs.Slices.{slice_join, slice_none}
use Rattle.tree.specs.declared.area.Area.{Area}
use Rattle.tree.specs.declared.kinds.Kind.TheVariants.{Application}
use Rattle.tree.specs.Areas.{cell_kind, name_in, next_in, tree_in, trees_in, CellIn, sum_in, Pushes}
use Rattle.tree.proofs.Keeping.{grows_push, grows_kind, grows_name, grows_tree, adds_same, adds_then, adds_grows, adds_push, pushed_some, pushed_inside, pushed_tree, pushed_trees}
use Rattle.tree.proofs.Lists.{list_none, list_more}
use Rattle.sums.specs.Sums.{remaining, heavy}
use Rattle.sums.specs.Areas.{remaining_in, AddsSum, SumAt, Summed}
use Rattle.sums.proofs.Summanding.{remaining_some, remaining_zero, remaining_append}
use Rattle.sums.proofs.Rebuilding.{remaining_length, heavy_append, rebuild_size}
use Rattle.sums.proofs.InAreas.{sum_cell, sum_kind}

-- the next sibling of a cell that was written
pushed_next : {a b : Area} {k n : ℕ} {t : Tree} → Pushes a b k n t → next_in b k ≡ n
pushed_next {b = b} h = ap (next_in b) h.cell ∙ h.linked.link

-- ---- a sum of two cells

module _ {a x : Area} {like r first : ℕ} (l : ℕ) (pl : 0 < like) (ql : like < a.free) (e : sum_in (tree_in a like) ≡ true) (pr : 0 < r) (qr : r < a.free) (n : next_in a r ≡ 0) (h : Pushes a x first r (tree_in a l)) where
  pub like_kept : CellIn x like × (cell_kind x like ≡ Application)
  like_kept = ((pl, omega (arith, h.end)), grows_kind (grows_push h) like ql ∙ sum_kind a like e)

  pub two_are : trees_in x first ≡ more (tree_in a l) (more (tree_in a r) none)
  two_are = pushed_trees h ∙ ap (more (tree_in a l)) (list_more a r pr qr refl ∙ ap (more (tree_in a r)) (list_none a (next_in a r) n))

  pub two_size : sizes (trees_in x first) ≡ size (tree_in a l) + size (tree_in a r)
  unfolding size
  two_size = ap sizes two_are ∙ omega arith

  pub adds_sum : {b : Area} {i : ℕ} → Pushes x b i 0 (apply (name_in x like) (trees_in x first)) → AddsSum a b i (plus (tree_in a l) (tree_in a r))
  adds_sum g = record {
    adds = adds_then (adds_push h) (adds_push g);
    end = omega (arith, g.end, h.end);
    some_cell = pushed_some g;
    inside = pushed_inside g;
    tree = pushed_tree g ∙ ap₂ (λ (f : Text) (ts : Trees). apply f ts) (grows_name (grows_push h) like ql ∙ (sum_cell a like e).1) two_are;
    link = pushed_next g;
  }

-- ---- the turns of the loop

-- at the head of the loop: the cells from word k on are summed
pub record Summing (a b : Area) (at end k : ℕ) (o : Option ℕ) : Type 0 where
  pub low : at ≤ k
  pub high : k ≤ end
  pub summed : Summed a b (remaining_in a k end) o

pub summing_starts : (a : Area) (at end : ℕ) → at ≤ end → Summing a a at end end None
unfolding remaining
summing_starts a at end q =
    let z : remaining_in a end end ≡ [] = ap (remaining a.sheet.now a.work.now) (slice_none end end a.work.now (omega arith)) in
    record { low = q; high = omega arith; summed = record { adds = adds_same a; used = omega arith; sum = z } }

module _ {a b : Area} {at end k : ℕ} {o : Option ℕ} (h : Summing a b at end k o) where
  pub summing_ends : k ≤ at → Summed a b (remaining_in a at end) o
  summing_ends q = let z : k ≡ at = omega (arith, h.low) in rw z at h.summed

  -- the cell like is kept
  pub like_stays : {like : ℕ} → 0 < like → like < a.free → sum_in (tree_in a like) ≡ true → CellIn b like × (sum_in (tree_in b like) ≡ true)
  like_stays {like} p q e = ((p, omega (arith, h.summed.adds.grew)), ap sum_in (grows_tree (adds_grows h.summed.adds) like q p) ∙ e)

  module _ (q : at < k) (r : end ≤ length a.work.now) (room : 4 * (a.free + 2 * (end - at)) ≤ at) where
    pub top : b.free ≤ a.free + 2 * (end - k)
    top = omega (arith, h.summed.used, remaining_length a.sheet.now a.work.now (slice k end a.work.now), length-slice k end a.work.now r)

    pub sum_room : (4 * (b.free + 2) ≤ length b.work.now) × (b.free + 2 ≤ a.free + 2 * (end - at)) × (a.free ≤ b.free) × (k - 1 < length b.work.now)
    sum_room = let t = top in let e = h.summed.adds.grown.len in let g = h.summed.adds.grew in let u = h.high in (omega arith, omega arith, g, omega arith)

    pub word_kept : get_or b.work.now (k - 1) 0 ≡ get_or a.work.now (k - 1) 0
    word_kept = let t = top in let u = h.high in h.summed.adds.grown.above (k - 1) (omega arith)

    ahead : slice (k - 1) end a.work.now ≡ get_or a.work.now (k - 1) 0 ∷ slice k end a.work.now
    ahead =
        let u = h.high in
        let z : suc (k - 1) ≡ k = omega arith in
        slice-cons (k - 1) end a.work.now 0 (omega arith) r ∙ ap (λ (x : ℕ). get_or a.work.now (k - 1) 0 ∷ slice x end a.work.now) z

    module _ {c : ℕ} (e : c ≡ get_or b.work.now (k - 1) 0) where
      pub summing_skips : c ≡ 0 → Summing a b at end (k - 1) o
      summing_skips z =
          let u = h.high in
          let f : remaining_in a (k - 1) end ≡ remaining_in a k end = ap (remaining a.sheet.now a.work.now) ahead ∙ remaining_zero a.sheet.now a.work.now (get_or a.work.now (k - 1) 0) (slice k end a.work.now) (sym word_kept ∙ sym e ∙ z) in
          record { low = omega arith; high = omega arith; summed = rw f h.summed }

      module _ (p : 0 < c) (below : (p : ℕ) → at ≤ p → p < end → get_or a.work.now p 0 < a.free) where
        pub cell_inside : c < a.free
        cell_inside = let u = h.high in omega (arith, e, word_kept, below (k - 1) (omega arith) (omega arith))

        front : remaining_in a (k - 1) end ≡ tree_in a c ∷ remaining_in a k end
        front = ap (remaining a.sheet.now a.work.now) ahead ∙ ap (λ (x : ℕ). remaining a.sheet.now a.work.now (x ∷ slice k end a.work.now)) (sym (e ∙ word_kept)) ∙ remaining_some a.sheet.now a.work.now c (slice k end a.work.now) p

        tree_kept : tree_in b c ≡ tree_in a c
        tree_kept = grows_tree (adds_grows h.summed.adds) c cell_inside p

        pub first_sum : {d : Area} {i : ℕ} → remaining_in a k end ≡ [] → Pushes b d i 0 (tree_in b c) → Summing a d at end (k - 1) (Some i)
        unfolding rebuild
        first_sum {d} {i} z g =
            let u = h.high in
            let used = h.summed.used in
            let n = ap length z in
            let m = ap length front in
            record {
              low = omega arith;
              high = omega arith;
              summed = record {
                adds = adds_then h.summed.adds (adds_push g);
                used = omega (arith, g.end);
                sum = record {
                  some_cell = pushed_some g;
                  inside = pushed_inside g;
                  head = tree_in a c;
                  tail = [];
                  are = front ∙ ap (λ (ts : List Tree). tree_in a c ∷ ts) z;
                  tree = pushed_tree g ∙ tree_kept;
                  link = pushed_next g;
                };
              };
            }

        pub next_sum : {d : Area} {i j : ℕ} → SumAt b (remaining_in a k end) j → AddsSum b d i (plus (tree_in b c) (tree_in b j)) → Summing a d at end (k - 1) (Some i)
        unfolding rebuild
        next_sum {d} {i} {j} s g =
            let u = h.high in
            let used = h.summed.used in
            let m = ap length front in
            record {
              low = omega arith;
              high = omega arith;
              summed = record {
                adds = adds_then h.summed.adds g.adds;
                used = omega (arith, g.end);
                sum = record {
                  some_cell = g.some_cell;
                  inside = g.inside;
                  head = tree_in a c;
                  tail = s.head ∷ s.tail;
                  are = front ∙ ap (λ (ts : List Tree). tree_in a c ∷ ts) s.are;
                  tree = g.tree ∙ ap₂ plus tree_kept s.tree;
                  link = g.link;
                };
              };
            }

        -- the nodes of the two
        pub sum_small : {j : ℕ} → SumAt b (remaining_in a k end) j → heavy (remaining_in a at end) ≤ 65535 → size (tree_in b c) + size (tree_in b j) + 1 < 65536
        unfolding heavy
        sum_small {j} s q₁ =
            let u = h.high in
            let v = h.low in
            let w = a.work.now in
            let z : slice at (k - 1) w ++ slice (k - 1) end w ≡ slice at end w = slice_join at (k - 1) end w (omega arith) (omega arith) r in
            let y : heavy (remaining_in a at end) ≡ heavy (remaining_in a at (k - 1)) + heavy (remaining_in a (k - 1) end) =
            ap (λ (l : List ℕ). heavy (remaining a.sheet.now w l)) (sym z) ∙ ap heavy (remaining_append a.sheet.now w (slice at (k - 1) w) (slice (k - 1) end w)) ∙ heavy_append (remaining_in a at (k - 1)) (remaining_in a (k - 1) end) in
            omega (arith, y, ap heavy front, ap heavy s.are, rebuild_size s.head s.tail, ap size s.tree, ap size tree_kept)
