-- Areas whose cells are kept: trees, names and links there are the same before and after.
use Prim.Native.Nat.{ℕ, ◌*◌, ◌<◌}
use mathlib.Core.Path.{◌≡◌, refl, sym, ap, ◌∙◌}
use lib.ListN.{length}
use native.Mathlib.Omega.{arith}
use Rattle.rules.specs.Tree.{Tree, more}
use Rattle.tree.specs.declared.area.Area.{Area}
use Rattle.tree.specs.Areas.{cell_kind, coded_kind, first_in, next_in, name_in, tree_in, trees_in, Lent, KeepsCells, Grows, Adds, Pushes}
use Rattle.tree.specs.Cells.{name_at, tree_at, trees_at}
use Rattle.text.proofs.Frames.{outside_same, outside_then}
use Rattle.tree.proofs.Areas.{below_same, below_then, outside_below}
use Rattle.tree.proofs.Decoding.{same_kind, same_first, same_next, same_name, frame_tree, frame_trees}

-- the sheet and the work area are those lent
pub lent_same : (a : Area) → Lent a a
lent_same a = record { work = refl; sheet = refl }

pub lent_then : {a b d : Area} → Lent a b → Lent b d → Lent a d
lent_then g h = record { work = h.work ∙ g.work; sheet = h.sheet ∙ g.sheet }

-- nothing changed
pub keeps_same : (a : Area) → KeepsCells a a
keeps_same a = record { lent = lent_same a; end = refl; below = below_same a.work.now a.free }

pub grows_same : (a : Area) → Grows a a
grows_same a = record { lent = lent_same a; grew = omega arith; below = below_same a.work.now a.free }

pub grows_keeps : {a b : Area} → KeepsCells a b → Grows a b
grows_keeps h = record { lent = h.lent; grew = omega (arith, h.end); below = h.below }

pub grows_push : {a b : Area} {k n : ℕ} {t : Tree} → Pushes a b k n t → Grows a b
grows_push h = record { lent = h.lent; grew = omega (arith, h.end); below = outside_below h.linked.grown }

-- one change after another
pub grows_then : {a b d : Area} → Grows a b → Grows b d → Grows a d
grows_then g h = record {
  lent = lent_then g.lent h.lent;
  grew = omega (arith, g.grew, h.grew);
  below = below_then g.below h.below g.grew;
}

pub keeps_then : {a b d : Area} → KeepsCells a b → KeepsCells b d → KeepsCells a d
keeps_then g h = let k = grows_then (grows_keeps g) (grows_keeps h) in record { lent = k.lent; end = h.end ∙ g.end; below = k.below }

pub grows_length : {a b : Area} → Grows a b → length b.work.now ≡ length a.work.now
grows_length h = h.below.len

-- the cells of the area that grew
module _ {a b : Area} (h : Grows a b) (k : ℕ) (q : k < a.free) where
  pub grows_kind : cell_kind b k ≡ cell_kind a k
  grows_kind = ap coded_kind (sym (same_kind a.work.now b.work.now h.below.words k q))

  pub grows_first : first_in b k ≡ first_in a k
  grows_first = sym (same_first a.work.now b.work.now h.below.words k q)

  pub grows_next : next_in b k ≡ next_in a k
  grows_next = sym (same_next a.work.now b.work.now h.below.words k q)

  pub grows_name : name_in b k ≡ name_in a k
  grows_name = ap (λ s. name_at s.now b.work.now k) h.lent.sheet ∙ sym (same_name a.work.now b.work.now h.below.words k q a.sheet.now)

  pub grows_trees : trees_in b k ≡ trees_in a k
  grows_trees = ap (λ s. trees_at s.now b.work.now k) h.lent.sheet ∙ sym (frame_trees a.sheet.now b.work.now a.arena.links h.below.words k q)

  pub grows_tree : 0 < k → tree_in b k ≡ tree_in a k
  grows_tree p = ap (λ s. tree_at s.now b.work.now k) h.lent.sheet ∙ sym (frame_tree a.sheet.now b.work.now a.arena.links h.below.words k p q)

-- new cells and no other change
pub adds_same : (a : Area) → Adds a a
adds_same a = record { lent = lent_same a; grew = omega arith; grown = outside_same a.work.now (4 * a.free) (4 * a.free) }

pub adds_grows : {a b : Area} → Adds a b → Grows a b
adds_grows h = record { lent = h.lent; grew = h.grew; below = outside_below h.grown }

pub adds_then : {a b d : Area} → Adds a b → Adds b d → Adds a d
adds_then g h = record {
  lent = lent_then g.lent h.lent;
  grew = omega (arith, g.grew, h.grew);
  grown = outside_then (omega (arith, g.grew)) (omega (arith, h.grew)) (omega arith) g.grown h.grown;
}

-- a cell written
module _ {a b : Area} {k next : ℕ} {t : Tree} (h : Pushes a b k next t) where
  pub adds_push : Adds a b
  adds_push = record { lent = h.lent; grew = omega (arith, h.end); grown = rw h.end h.linked.grown }

  pub pushed_some : 0 < k
  pushed_some = omega (arith, h.cell, a.arena.links.some)

  pub pushed_inside : k < b.free
  pushed_inside = omega (arith, h.cell, h.end)

  pub pushed_tree : tree_in b k ≡ t
  pushed_tree = ap (tree_in b) h.cell ∙ ap (λ s. tree_at s.now b.work.now a.free) h.lent.sheet ∙ h.linked.tree

  pub pushed_trees : trees_in b k ≡ more t (trees_in a next)
  pushed_trees = ap (trees_in b) h.cell ∙ ap (λ s. trees_at s.now b.work.now a.free) h.lent.sheet ∙ h.linked.trees
