-- A work area parted above its cells: the first part holds the cells, and what is written to the second leaves them.
use Prim.Native.Nat.{ℕ, ◌+◌, ◌-◌, ◌*◌, ◌<◌, ◌≤◌}
use mathlib.Core.Path.{◌≡◌, sym, ap, ◌∙◌}
use mathlib.Core.List.{List, ◌++◌}
use lib.ListN.{length, get_or, length-append, get_or-append}
use native.Mathlib.Omega.{arith}
use native.Mathlib.Decide.{dec_lt}
use Rattle.std.proofs.lemmas.List.{get_or-append_right}
use Rattle.rules.specs.Bytes.{Text}
use Rattle.text.specs.Frames.{Outside}
use Rattle.tree.specs.declared.area.Area.{Area}
use Rattle.tree.specs.Cells.{tree_at, trees_at}
use Rattle.tree.specs.Arena.{Arena, Below}
use Rattle.tree.specs.Areas.{tree_in}
use Rattle.tree.proofs.Areas.{arena_agrees, arena_below}
use Rattle.tree.proofs.Decoding.{Agree, frame_tree, frame_trees}

-- w is parted into c, of m words, and r
pub record Parted (w c r : List ℕ) (m : ℕ) : Type 0 where
  pub whole : w ≡ c ++ r
  pub first : length c ≡ m

pub parted : (w c r : List ℕ) (m : ℕ) → w ≡ c ++ r → length c ≡ m → Parted w c r m
parted w c r m e f = record { whole = e; first = f }

module _ {w c r : List ℕ} {m : ℕ} (h : Parted w c r m) where
  module _ (n : ℕ) (l : 4 * n ≤ m) where
    pub part_agree : Agree w c n
    part_agree p q = ap (λ (x : List ℕ). get_or x p 0) h.whole ∙ get_or-append c r 0 p (omega (arith, h.first))

    -- the first part
    module _ (s : Text) (a : Arena s w n) where
      pub part_arena : Arena s c n
      part_arena = arena_agrees s a (omega (arith, h.first)) part_agree

      pub part_tree : (k : ℕ) → 0 < k → k < n → tree_at s c k ≡ tree_at s w k
      part_tree k p q = sym (frame_tree s c a.links part_agree k p q)

      pub part_trees : (k : ℕ) → k < n → trees_at s c k ≡ trees_at s w k
      part_trees k q = sym (frame_trees s c a.links part_agree k q)

    -- both again
    module _ (u : List ℕ) (g : length u ≡ length r) where
      pub joined_below : Below w (c ++ u) n
      joined_below = record {
        len = omega (arith, length-append c u, ap length h.whole, length-append c r);
        words = λ p q. part_agree p q ∙ sym (get_or-append c u 0 p (omega (arith, h.first)));
      }

      pub joined_arena : {s : Text} → Arena s w n → Arena s (c ++ u) n
      joined_arena a = arena_below a joined_below

  pub joined_outside : {u : List ℕ} {from to low high : ℕ} → Outside r u from to → low ≡ m + from → high ≡ m + to → Outside w (c ++ u) low high
  joined_outside {u} {from} {to} k x y =
      let l₁ = length-append c u in
      let l₂ = length-append c r in
      let l₃ = ap length h.whole in
      let l₄ = k.len in
      let f = h.first in
      let there : (p : ℕ) → m ≤ p → get_or u (p - m) 0 ≡ get_or r (p - m) 0 → get_or (c ++ u) p 0 ≡ get_or w p 0 =
      λ p q x. get_or-append_right c u m p 0 f q ∙ x ∙ sym (ap (λ (x : List ℕ). get_or x p 0) h.whole ∙ get_or-append_right c r m p 0 f q) in
      record {
        len = omega arith;
        below = λ p q. elim (dec_lt p m) [
          | yes b ↦ get_or-append c u 0 p (omega arith) ∙ sym (ap (λ (x : List ℕ). get_or x p 0) h.whole ∙ get_or-append c r 0 p (omega arith))
          | no b ↦ there p (omega arith) (k.below (p - m) (omega arith))
        ];
        above = λ p q. there p (omega arith) (k.above (p - m) (omega arith));
      }

-- the cells of an area
module _ (a : Area) {c r : List ℕ} (h : Parted a.work.now c r (4 * a.free)) where
  pub cells_arena : Arena a.sheet.now c a.free
  cells_arena = part_arena h a.free (omega arith) a.sheet.now a.arena

  pub cells_tree : (k : ℕ) → 0 < k → k < a.free → tree_at a.sheet.now c k ≡ tree_in a k
  cells_tree = part_tree h a.free (omega arith) a.sheet.now a.arena

  pub cells_kept : (u : List ℕ) → length u ≡ length r → Arena a.sheet.now (c ++ u) a.free
  cells_kept u g = joined_arena h a.free (omega arith) u g a.arena
