-- Two sums whose summands are gathered and cancelled in words of their own, and those words as a part of the work area.
use Prim.Native.Nat.{ℕ, ◌+◌, ◌-◌, ◌*◌, ◌<◌, ◌≤◌}
use mathlib.Core.Path.{◌≡◌, refl, sym, ap, ap₂, ◌∙◌}
use mathlib.Core.List.{List, ◌++◌}
use lib.ListN.{length, get_or, take, drop, length-append, length-drop, get_or-append}
use lib.Seq.{slice, take-append_seam, drop-append_seam, take-append-le, take-append-add, drop-append-add, length-take-le, get_or-drop}
use native.Mathlib.Omega.{arith}
use Rattle.std.proofs.lemmas.List.{get_or-append_right}
use Rattle.rules.specs.Tree.{Tree, size}
use Rattle.rules.specs.Sums.{summands}
use Rattle.rules.specs.Solving.{cancel}
use Rattle.text.specs.Frames.{Outside, Wrote}
use Rattle.tree.specs.declared.area.Area.{Area}
use Rattle.tree.specs.Areas.{tree_in, Lent}
use Rattle.tree.proofs.Parting.{Parted, joined_below, joined_outside}
use Rattle.flattening.proofs.WriterSteps.{wrote_append}
use Rattle.sums.specs.Sums.{remaining}
use Rattle.sums.specs.Areas.{remaining_in, CancelsIn, PreparedAt}
use Rattle.sums.specs.Summands.{every_cancels, test_of, trees_of, heft_in, AreCells, CollectsCells, StrikesCells}
use Rattle.sums.specs.declared.striking.Cancelling.{Cancelling}
use Rattle.sums.proofs.Summanding.{remaining_frame, heft_append}
use Rattle.sums.proofs.Describing.{heft_count}
use Rattle.sums.proofs.Collecting.{are_append}
use Rattle.sums.proofs.Removing.{struck_below}

abbrev two : List Tree → List Tree → List Tree × List Tree
two ts us = (ts, us)

-- ---- the summands of both, gathered

module _ {a : Area} {w v : List ℕ} {mid : ℕ} (i j : ℕ) (room : 17 * (size (tree_in a i) + size (tree_in a j)) + 2 ≤ length w) (g : CollectsCells a w v 0 mid (size (tree_in a i)) (summands (tree_in a i))) where
  first_count : length g.cells ≤ size (tree_in a i)
  first_count = omega (arith, g.light, heft_count a.sheet.now a.work.now g.cells)

  pub second_room : mid + size (tree_in a j) ≤ length v
  second_room = omega (arith, g.ends, g.wrote.outside.len, first_count)

  module _ {u : List ℕ} {end : ℕ} (x y : List ℕ) (h : CollectsCells a v u mid end (size (tree_in a j)) (summands (tree_in a j))) (e : u ≡ x ++ y) (f : length x ≡ end) where
    second_count : length h.cells ≤ size (tree_in a j)
    second_count = omega (arith, h.light, heft_count a.sheet.now a.work.now h.cells)

    both_wrote : Wrote w u 0 (g.cells ++ h.cells)
    both_wrote = wrote_append g.wrote h.wrote g.ends (omega (arith, g.ends, first_count, second_count))

    both_count : 0 + length (g.cells ++ h.cells) ≡ end
    both_count = omega (arith, length-append g.cells h.cells, g.ends, h.ends)

    cells_are : x ≡ g.cells ++ h.cells
    cells_are = sym (take-append_seam x y) ∙ ap₂ (λ (n : ℕ) (l : List ℕ). take n l) (f ∙ sym both_count) (sym e) ∙ both_wrote.words

    both_heft : heft_in a x ≤ size (tree_in a i) + size (tree_in a j)
    both_heft = omega (arith, ap (heft_in a) cells_are, heft_append a.sheet.now a.work.now g.cells h.cells, g.light, h.light)

    pub strike_cells : AreCells a x × (mid ≤ length x)
    strike_cells = (rw cells_are (are_append a g.cells h.cells g.are h.are), omega (arith, f, h.ends))

    pub strike_small : 5 * (size (tree_in a i) + size (tree_in a j)) < 65536 → 5 * heft_in a x < 65536
    strike_small k = omega (arith, both_heft)

    pub strike_room : length x + 15 * heft_in a x + 2 ≤ length y
    strike_room = omega (arith, both_heft, f, g.ends, h.ends, first_count, second_count, ap length e, length-append x y, h.wrote.outside.len, g.wrote.outside.len, room)

    pub cancels : {c : Cancelling} {x₁ z : List ℕ} (y₁ : List ℕ) → StrikesCells a x x₁ mid c → z ≡ x₁ ++ y₁ → CancelsIn a z mid end (size (tree_in a i) + size (tree_in a j)) (tree_in a i) (tree_in a j) c
    cancels {c} {x₁} y₁ s o =
        let len = s.struck.len in
        let n = length g.cells in
        let z : length g.cells ≡ mid = omega (arith, g.ends) in
        let lefts : take mid x ≡ g.cells = rw (cells_are, ← z) (take-append_seam g.cells h.cells) in
        let rights : drop mid x ≡ h.cells = rw (cells_are, ← z) (drop-append_seam g.cells h.cells) in
        let lefts₁ : take mid x₁ ≡ take mid (x₁ ++ y₁) = sym (take-append-le mid x₁ y₁ (omega (arith, f, h.ends))) in
        let rights₁ : drop mid x₁ ≡ slice mid end (x₁ ++ y₁) = ap (drop mid) (sym (take-append_seam x₁ y₁) ∙ ap (λ (k : ℕ). take k (x₁ ++ y₁)) (len ∙ f)) in
        rw o record {
          high = omega (arith, h.ends);
          bound = omega (arith, g.ends, h.ends, first_count, second_count);
          cells = λ q l. rw (get_or-append x₁ y₁ 0 q (omega (arith, f, len))) (struck_below s.struck q a.free (strike_cells.0 q (omega (arith, f))).1);
          are = ap₂ (λ (ts us : List Tree). cancel (test_of c) ts us) (sym (ap (trees_of a) lefts ∙ g.trees)) (sym (ap (trees_of a) rights ∙ h.trees))
              ∙ s.are ∙ ap₂ (λ (l r : List ℕ). two (trees_of a l) (trees_of a r)) lefts₁ rights₁;
        }

-- ---- words that are a part of the work area

-- words after c
part_after : (c v d : List ℕ) (at x y : ℕ) → length c ≡ at → y ≤ length v → slice (at + x) (at + y) (c ++ (v ++ d)) ≡ slice x y v
part_after c v d at x y e l =
    rw (← e, take-append-add c (v ++ d) y, drop-append-add c (take y (v ++ d)) x, take-append-le y v d l) refl

pub whole_length : (v r : List ℕ) (m : ℕ) → m ≤ length r → length v ≡ length (take m r) → length (v ++ drop m r) ≡ length r
whole_length v r m l e = omega (arith, length-append v (drop m r), length-drop m r, e, length-take-le m r l)

module _ {a b t : Area} {c r v : List ℕ} {at m k mid end : ℕ} {l s : Tree} {d : Cancelling} (h : Parted a.work.now c r at) (above : 4 * a.free ≤ at) (em : m ≡ 17 * k + 2) (long : m ≤ length r) (len : length v ≡ length (take m r))
    (lent : Lent a b) (fb : b.free ≡ a.free) (wb : b.work.now ≡ c ++ (v ++ drop m r)) (st : t.sheet.now ≡ a.sheet.now) (wt : t.work.now ≡ c) (ft : t.free ≡ a.free) (g : CancelsIn t v mid end k l s d) where
  long_v : length v ≡ m
  long_v = len ∙ length-take-le m r long

  long_u : length (v ++ drop m r) ≡ length r
  long_u = whole_length v r m long len

  outside : Outside r (v ++ drop m r) 0 m
  outside = record {
    len = long_u;
    below = λ p q. absurd (omega arith);
    above = λ p q. get_or-append_right v (drop m r) m p 0 long_v q ∙ get_or-drop m r (p - m) 0 ∙ (let z : m + (p - m) ≡ p = omega arith in ap (λ (i : ℕ). get_or r i 0) z);
  }

  word_is : (q : ℕ) → q < m → get_or b.work.now (at + q) 0 ≡ get_or v q 0
  word_is q n =
      let z : at + q - at ≡ q = omega arith in
      ap (λ (w : List ℕ). get_or w (at + q) 0) wb ∙ get_or-append_right c (v ++ drop m r) at (at + q) 0 h.first (omega arith)
      ∙ ap (λ (i : ℕ). get_or (v ++ drop m r) i 0) z ∙ get_or-append v (drop m r) 0 q (omega (arith, long_v))

  left : (x y : ℕ) → x ≤ y → y ≤ end → trees_of t (slice x y v) ≡ remaining_in b (at + x) (at + y)
  left x y n o =
      let e = g.bound in
      remaining_frame t.sheet.now t.work.now b.work.now t.free t.arena.links
      (λ p q. ap (λ (w : List ℕ). get_or w p 0) wt ∙ sym (ap (λ (w : List ℕ). get_or w p 0) wb ∙ get_or-append c (v ++ drop m r) 0 p (omega (arith, h.first, above, ft))))
      v x y n (omega (arith, long_v, em)) (λ q i j. g.cells q (omega arith))
      ∙ ap (λ (s : List ℕ). remaining s b.work.now (slice x y v)) (st ∙ sym (ap (λ s. s.now) lent.sheet))
      ∙ ap (remaining b.sheet.now b.work.now) (sym (ap (slice (at + x) (at + y)) wb ∙ part_after c v (drop m r) at x y h.first (omega (arith, long_v, em))))

  pub prepares : PreparedAt a b (record { at = at; mid = at + mid; end = at + end }) at k l s (every_cancels d)
  prepares =
      let e = g.bound in
      let f = g.high in
      let z : at + 0 ≡ at = omega arith in
      let y : at + m ≡ at + 17 * k + 2 = omega arith in
      record {
        keeps = record { lent = lent; end = fb; below = rw wb (joined_below h a.free above (v ++ drop m r) long_u) };
        outside = rw wb (joined_outside h outside (omega arith) (omega arith));
        start = refl;
        low = omega arith;
        high = omega arith;
        bound = omega arith;
        cells = λ q i j. (let n = word_is (q - at) (omega arith) in
            let x : at + (q - at) ≡ q = omega arith in
            let w = g.cells (q - at) (omega arith) in
            omega (arith, ap (λ (i : ℕ). get_or b.work.now i 0) x, ft));
        are = g.are ∙ ap₂ two (left 0 mid (omega arith) f ∙ ap (λ (x : ℕ). remaining_in b x (at + mid)) z) (left mid end f (omega arith));
      }
