-- The lists of an area, cell by cell, and the nodes of its trees.
use Prim.Native.Nat.{ℕ, suc, ◌+◌, ◌<◌}
use mathlib.Core.Path.{◌≡◌, sym, ap, ap₂, ◌∙◌}
use Rattle.rules.specs.Bytes.{Text}
use Rattle.rules.specs.Tree.{Trees, none, more, apply, count, size, sizes}
use Rattle.tree.specs.declared.area.Area.{Area}
use Rattle.tree.specs.Areas.{count_in, next_in, tree_in, trees_in, Pushes}
use Rattle.tree.specs.Lists.{Lists}
use Rattle.tree.proofs.Decoding.{trees_none, trees_more}
use Rattle.tree.proofs.Keeping.{grows_trees, adds_grows, adds_then, adds_push, pushed_inside, pushed_trees}

module _ (a : Area) (k : ℕ) where
  pub list_none : k ≡ 0 → trees_in a k ≡ none
  list_none e = trees_none a.sheet.now a.work.now k e

  pub list_more : {j : ℕ} → 0 < k → k < a.free → j ≡ next_in a k → trees_in a k ≡ more (tree_in a k) (trees_in a j)
  list_more p q e = trees_more a.sheet.now a.arena.links k p q ∙ ap (λ (j : ℕ). more (tree_in a k) (trees_in a j)) (sym e)

  pub list_count : {j : ℕ} → 0 < k → k < a.free → j ≡ next_in a k → count (trees_in a k) ≡ suc (count (trees_in a j))
  list_count p q e = ap count (list_more p q e)

  pub list_size : {j : ℕ} → 0 < k → k < a.free → j ≡ next_in a k → sizes (trees_in a k) ≡ size (tree_in a k) + sizes (trees_in a j)
  unfolding size
  list_size p q e = ap sizes (list_more p q e)

  pub count_size : {c : ℕ} → 0 < k → k < a.free → c ≡ count_in a k → c ≡ size (tree_in a k)
  count_size p q e = e ∙ (a.arena.cell k p q).counted

-- a tree written once more before a list, and an application over the two
module _ {a b : Area} (x : ℕ) {rest k : ℕ} (g : Pushes a b k rest (tree_in a x)) where
  pub shared_sizes : sizes (trees_in b k) ≡ size (tree_in a x) + sizes (trees_in a rest)
  unfolding size
  shared_sizes = ap sizes (pushed_trees g)

  pub lists_over : {d : Area} {i next : ℕ} (f : Text) → Pushes b d i next (apply f (trees_in b k)) → next < a.free
      → Lists a d i (more (apply f (more (tree_in a x) (trees_in a rest))) (trees_in a next))
  lists_over {next = next} f h p = record {
    adds = adds_then (adds_push g) (adds_push h);
    inside = pushed_inside h;
    trees = pushed_trees h ∙ ap₂ (λ (ts us : Trees). more (apply f ts) us) (pushed_trees g) (grows_trees (adds_grows (adds_push g)) next p);
  }
