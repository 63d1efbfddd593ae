-- A list written once more, the last first: the trees of a before cell k stand in b.
use Prim.Native.Nat.{ℕ, ◌+◌, ◌<◌}
use native.Mathlib.Omega.{arith}
use mathlib.Core.Path.{◌≡◌, refl, sym, ap, ap₂, ◌∙◌}
use Rattle.rules.specs.Tree.{Trees, none, more, count}
use Rattle.tree.specs.declared.area.Area.{Area}
use Rattle.tree.specs.Areas.{next_in, tree_in, trees_in, HasRoom, Pushes}
use Rattle.tree.specs.Lists.{back, Lists}
use Rattle.tree.proofs.Keeping.{adds_same, adds_grows, adds_then, adds_push, grows_length, grows_next, grows_tree, pushed_inside, pushed_trees}
use Rattle.tree.proofs.Lists.{list_none, list_more, list_count}

pub record Backward (a : Area) (list : ℕ) (b : Area) (k first : ℕ) : Type 0 where
  pub us : Trees
  pub lists : Lists a b first us
  pub left : k < a.free
  pub trees : back (trees_in a k) us ≡ back (trees_in a list) none
  pub used : b.free + count (trees_in a k) ≡ a.free + count (trees_in a list)

pub backward_starts : (a : Area) (list : ℕ) → list < a.free → Backward a list a list 0
backward_starts a list q = record {
  us = none;
  lists = record { adds = adds_same a; inside = a.arena.links.some; trees = list_none a 0 refl };
  left = q;
  trees = refl;
  used = refl;
}

module _ {a b : Area} {list k first : ℕ} (h : Backward a list b k first) where
  pub backward_lists : k ≡ 0 → Lists a b first (back (trees_in a list) none)
  unfolding back
  backward_lists z =
      let e = list_none a k z in
      record { adds = h.lists.adds; inside = h.lists.inside; trees = h.lists.trees ∙ sym (ap (λ (ts : Trees). back ts h.us) e) ∙ h.trees }

  pub backward_end : k ≡ 0 → b.free ≡ a.free + count (trees_in a list)
  backward_end z = omega (arith, h.used, ap count (list_none a k z))

  pub backward_inside : k < b.free
  backward_inside = omega (arith, h.left, h.lists.adds.grew)

  module _ (p : 0 < k) where
    pub backward_room : HasRoom a (count (trees_in a list)) → HasRoom b 1
    backward_room r =
        let u = h.used in
        let c = list_count a k p h.left refl in
        (omega (arith, r.0, grows_length (adds_grows h.lists.adds)), omega (arith, r.1))

    pub backward_turn : {d : Area} {next i : ℕ} → next ≡ next_in b k → next < k → Pushes b d i first (tree_in b k) → Backward a list d next i
    unfolding back
    backward_turn {d} {next} {i} e q x =
        let n = e ∙ grows_next (adds_grows h.lists.adds) k h.left in
        let t = grows_tree (adds_grows h.lists.adds) k h.left p in
        record {
          us = more (tree_in a k) h.us;
          lists = record {
            adds = adds_then h.lists.adds (adds_push x);
            inside = pushed_inside x;
            trees = pushed_trees x ∙ ap₂ more t h.lists.trees;
          };
          left = omega (arith, h.left);
          trees = sym (ap (λ (ts : Trees). back ts h.us) (list_more a k p h.left n)) ∙ h.trees;
          used = omega (arith, h.used, list_count a k p h.left n, x.end);
        }
