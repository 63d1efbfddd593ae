-- Fixed names over leaves of an area.
use Prim.Native.Nat.{ℕ, zero, suc, ◌+◌}
use mathlib.Core.Path.{◌≡◌, refl, sym, ap, ap₂, ◌∙◌, subst}
use native.Mathlib.Omega.{arith}
use Rattle.rules.specs.Bytes.{Text}
use Rattle.rules.specs.Tree.{Tree, apply, Trees, none, more, count, size, sizes}
use Rattle.rules.specs.Reduction.{one, two}
use Rattle.tree.specs.declared.area.Area.{Area}
use Rattle.tree.specs.Areas.{next_in, tree_in, trees_in, Pushes}
use Rattle.tree.proofs.Decoding.{trees_none, sizes_none}
use Rattle.tree.proofs.Keeping.{adds_grows, grows_tree}
use Rattle.tree.proofs.Lists.{list_more}
use Rattle.substitution.specs.Areas.{Puts}
use Rattle.tree.specs.Lists.{Lists}
use Rattle.substitution.proofs.Listing.{lists_same, lists_push, lists_more, puts_then}
use Rattle.schemes.specs.Making.{LeafIn}

-- the empty list
pub no_trees : (a : Area) → trees_in a 0 ≡ none
no_trees a = trees_none a.sheet.now a.work.now 0 refl

pub no_sizes : (a : Area) → sizes (trees_in a 0) ≡ 0
no_sizes a = sizes_none a.sheet.now a.work.now 0 refl

-- a list of one tree more, at its first cell
list_puts_at : {a m : Area} (k : ℕ) {t : Tree} → Lists a m k (more t (trees_in a 0)) → Puts a m k 0 t
list_puts_at {a} {m} zero {t} h = let z : 0 ≡ suc (count (trees_in a 0)) = sym (ap count (no_trees m)) ∙ ap count h.trees in absurd (omega (arith, z))
list_puts_at {a} {m} (suc j) {t} h =
    let e : more (tree_in m (suc j)) (trees_in m (next_in m (suc j))) ≡ more t (trees_in a 0) = sym (list_more m (suc j) (omega arith) h.inside refl) ∙ h.trees in
    record { adds = h.adds; some_cell = omega arith; inside = h.inside; tree = cc; trees = h.trees }

pub list_puts : {a m : Area} {k : ℕ} {t : Tree} → Lists a m k (more t (trees_in a 0)) → Puts a m k 0 t
list_puts {k = k} h = list_puts_at k h

-- a leaf before a tree alone
module _ {a m : Area} {l : ℕ} {u : Tree} (x : ℕ) (o : LeafIn a x) (g : Lists a m l (more u (trees_in a 0))) where
  leaf_kept : tree_in m x ≡ tree_in a x
  leaf_kept = grows_tree (adds_grows g.adds) x o.inside o.some_cell

  pub pair_sizes : size (tree_in m x) + sizes (trees_in m l) ≡ 1 + size u
  unfolding size
  pair_sizes = omega (arith, ap size leaf_kept, o.node, ap sizes g.trees, no_sizes a)

  pub two_puts : {b : Area} {k : ℕ} (f : Text) → Puts m b k 0 (apply f (more (tree_in m x) (trees_in m l))) → Puts a b k 0 (two f (tree_in a x) u)
  two_puts {b} {k} f h =
      subst (Puts a b k 0) (ap₂ (λ (t : Tree) (ts : Trees). apply f (more t ts)) leaf_kept (g.trees ∙ ap (more u) (no_trees a)))
      (puts_then g a.arena.links.some h)

-- a tree alone
pub alone : {a m : Area} {l : ℕ} {t : Tree} → Pushes a m l 0 t → Lists a m l (more t (trees_in a 0))
alone {a} g = lists_push (lists_same a 0 a.arena.links.some) g

pub alone_put : {a m : Area} {l : ℕ} {t : Tree} → Puts a m l 0 t → Lists a m l (more t (trees_in a 0))
alone_put {a} g = lists_more (lists_same a 0 a.arena.links.some) g

-- `tamXCpk` over a leaf
pub key_size : (a : Area) (f : Text) (y : ℕ) → LeafIn a y → size (apply f (more (tree_in a y) (trees_in a 0))) ≡ 2
unfolding size
key_size a f y o = omega (arith, o.node, no_sizes a)

pub leaf_size : (a : Area) (y : ℕ) → LeafIn a y → size (tree_in a y) + sizes (trees_in a 0) ≡ 1
leaf_size a y o = omega (arith, o.node, no_sizes a)

pub key_puts : {a b : Area} {k : ℕ} (f g : Text) (t : Tree) (y : ℕ) → Puts a b k 0 (two f t (apply g (more (tree_in a y) (trees_in a 0)))) → Puts a b k 0 (two f t (one g (tree_in a y)))
key_puts {a} {b} {k} f g t y h = subst (λ (ts : Trees). Puts a b k 0 (two f t (apply g (more (tree_in a y) ts)))) (no_trees a) h
