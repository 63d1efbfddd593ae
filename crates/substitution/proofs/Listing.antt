-- Trees and lists that are written at the free end of an area.
use Prim.Native.Nat.{ℕ, ◌+◌, ◌*◌, ◌<◌, ◌≤◌}
use mathlib.Core.Path.{◌≡◌, refl, sym, ap, ap₂, ◌∙◌}
use native.Mathlib.Omega.{arith}
use Rattle.std.specs.Prelude.{Option, Some, None}
use Rattle.rules.specs.Bytes.{Text}
use Rattle.rules.specs.Tree.{Tree, apply, Trees, none, more, size, sizes}
use Rattle.tree.specs.declared.area.Area.{Area}
use Rattle.tree.specs.declared.kinds.Kind.TheVariants.{Application}
use Rattle.tree.specs.Areas.{cell_kind, count_in, first_in, next_in, name_in, tree_in, trees_in, Adds, Grows, Pushes}
use Rattle.tree.proofs.Decoding.{trees_none, trees_more, size_pos}
use Rattle.text.proofs.Frames.{outside_same, outside_then}
use Rattle.tree.proofs.Areas.{outside_below}
use Rattle.tree.proofs.Keeping.{lent_same, lent_then, adds_same, adds_grows, adds_then, adds_push, pushed_some, pushed_inside, pushed_tree, pushed_trees, grows_kind, grows_first, grows_name, grows_tree, grows_trees}
use Rattle.tree.proofs.ByKind.{tree_application}
use Rattle.substitution.specs.Areas.{Lists, Puts, WithinArea, Places, ListsWithin, BuildsTreeIn, BuildsListIn}
use Rattle.substitution.specs.declared.instances.Built.{Built}

-- a list of the area, before anything is written
pub lists_same : (a : Area) (i : ℕ) → i < a.free → Lists a a i (trees_in a i)
lists_same a i p = record { adds = adds_same a; inside = p; trees = refl }

-- one tree more
pub lists_push : {a b d : Area} {i k : ℕ} {ts : Trees} {t : Tree} → Lists a b i ts → Pushes b d k i t → Lists a d k (more t ts)
lists_push {t = t} h g = record {
  adds = adds_then h.adds (adds_push g);
  inside = pushed_inside g;
  trees = pushed_trees g ∙ ap (more t) h.trees;
}

-- the trees of the area's cells are kept
pub lists_tree : {a b : Area} {i : ℕ} {ts : Trees} (k : ℕ) → 0 < k → k < a.free → Lists a b i ts → tree_in b k ≡ tree_in a k
lists_tree k p q h = grows_tree (adds_grows h.adds) k q p

-- a tree before a list: a cell that has the link already, or a new one
pub puts_same : (a : Area) (k next : ℕ) → 0 < k → k < a.free → next_in a k ≡ next → Puts a a k next (tree_in a k)
puts_same a k next p q e = record {
  adds = adds_same a;
  some_cell = p;
  inside = q;
  tree = refl;
  trees = trees_more a.sheet.now a.arena.links k p q ∙ ap (λ (j : ℕ). more (tree_in a k) (trees_in a j)) e;
}

pub puts_push : {a b : Area} {k next : ℕ} {t : Tree} → Pushes a b k next t → Puts a b k next t
puts_push g = record { adds = adds_push g; some_cell = pushed_some g; inside = pushed_inside g; tree = pushed_tree g; trees = pushed_trees g }

-- nothing written, and more room
pub within_same : (a : Area) (n : ℕ) → WithinArea a a n
within_same a n = record { lent = lent_same a; grew = omega arith; used = omega arith; grown = outside_same a.work.now (4 * a.free) (4 * (a.free + n)) }

pub within_then : {a b d : Area} {m n : ℕ} → Adds a b → WithinArea b d m → b.free + m ≤ a.free + n → WithinArea a d n
within_then h g e = record {
  lent = lent_then h.lent g.lent;
  grew = omega (arith, h.grew, g.grew);
  used = omega (arith, g.used);
  grown = outside_then (omega (arith, h.grew)) (omega arith) (omega arith) h.grown g.grown;
}

pub within_grows : {a b : Area} {n : ℕ} → WithinArea a b n → Grows a b
within_grows h = record { lent = h.lent; grew = h.grew; below = outside_below h.grown }

pub within_more : {a b : Area} {m n : ℕ} → m ≤ n → WithinArea a b m → WithinArea a b n
within_more {a} e g = within_then (adds_same a) g (omega arith)

-- the count of nodes of a cell
pub counted : (a : Area) (k : ℕ) → 0 < k → k < a.free → (count_in a k ≡ size (tree_in a k)) × (0 < size (tree_in a k))
counted a k p q = ((a.arena.cell k p q).counted, size_pos (tree_in a k))

-- one cell at most, within a budget
pub places_kept : {a b : Area} {n k next c : ℕ} {t : Tree} → Puts a b k next t → b.free ≤ a.free + 1 → c + size t ≡ n → Places a b n next t record { index = k; budget = c }
places_kept {t = t} h u e = record { puts = h; used = omega (arith, size_pos t); spent = e }

-- no budget
pub over_tree : (a : Area) {n : ℕ} (t : Tree) → n ≡ 0 → (n < size t) × WithinArea a a n
over_tree a {n} t z = (omega (arith, size_pos t), within_same a n)

pub over_list : (a : Area) {n : ℕ} (t : Tree) (ts : Trees) → n ≡ 0 → (n < sizes (more t ts)) × WithinArea a a n
unfolding size
over_list a {n} t ts z = (omega (arith, size_pos t), within_same a n)

-- the empty list
pub listed_none : (a : Area) (n : ℕ) → ListsWithin a a n none record { index = 0; budget = n }
unfolding size
listed_none a n = record {
  lists = record { adds = adds_same a; inside = a.arena.links.some; trees = trees_none a.sheet.now a.work.now 0 refl };
  used = omega arith;
  spent = omega arith;
}

-- a list, and what is written after it
module _ {a m b : Area} {j : ℕ} {ts : Trees} (h : Lists a m j ts) where
  pub puts_then : {k next : ℕ} {t : Tree} → next < a.free → Puts m b k next t → Puts a b k next t
  puts_then {k} {next} {t} q g = record {
    adds = adds_then h.adds g.adds;
    some_cell = g.some_cell;
    inside = g.inside;
    tree = g.tree;
    trees = g.trees ∙ ap (more t) (grows_trees (adds_grows h.adds) next q);
  }

  pub lists_more : {k : ℕ} {t : Tree} → Puts m b k j t → Lists a b k (more t ts)
  lists_more {k} {t} g = record { adds = adds_then h.adds g.adds; inside = g.inside; trees = g.trees ∙ ap (more t) h.trees }

-- an application over a list that was written
module _ {a m : Area} {j : ℕ} {ts : Trees} (h : Lists a m j ts) (i : ℕ) (p : 0 < i) (q : i < a.free) (e : cell_kind a i ≡ Application) where
  pub kind_later : cell_kind m i ≡ Application
  kind_later = grows_kind (adds_grows h.adds) i q ∙ e

  pub over_same : j ≡ first_in a i → tree_in m i ≡ apply (name_in a i) ts
  over_same f =
      let g = adds_grows h.adds in
      tree_application m i kind_later ∙ ap₂ apply (grows_name g i q) (ap (trees_in m) (grows_first g i q ∙ sym f) ∙ h.trees)

  pub over_new : apply (name_in m i) (trees_in m j) ≡ apply (name_in a i) ts
  over_new = ap₂ apply (grows_name (adds_grows h.adds) i q) h.trees

-- within a budget of which one node more is taken
module _ {a m : Area} {l n : ℕ} {ts : Trees} {r : Built} (h : ListsWithin a m l ts r) (s : n ≡ l + 1) where
  pub places_over : {b : Area} {k next : ℕ} {t : Tree} (x : Text) → next < a.free → Puts m b k next t → b.free ≤ m.free + 1 → t ≡ apply x ts → Places a b n next (apply x ts) record { index = k; budget = r.budget }
  unfolding size
  places_over x q g u e = record { puts = rw e at (puts_then h.lists q g); used = omega (arith, h.used); spent = omega (arith, h.spent) }

  pub builds_more : (b : Area) (t : Tree) (o : Option Built) → BuildsTreeIn m b (r.budget + 1) r.index t o → BuildsListIn a b n (more t ts) o
  unfolding size
  builds_more b t (Some o) g = record { lists = lists_more h.lists g.puts; used = omega (arith, h.used, g.used); spent = omega (arith, h.spent, g.spent) }
  builds_more b t None g = (omega (arith, h.spent, g.0), within_then h.lists.adds g.1 (omega (arith, h.used)))

-- over the budget
pub over_apply : {a b : Area} {l n : ℕ} (x : Text) (ts : Trees) → n ≡ l + 1 → (l < sizes ts) × WithinArea a b l → (n < size (apply x ts)) × WithinArea a b n
unfolding size
over_apply x ts s g = (omega (arith, g.0), within_more (omega arith) g.1)

pub over_more : {a b : Area} {l n : ℕ} (t : Tree) (ts : Trees) → n ≡ l + 1 → (l < sizes ts) × WithinArea a b l → (n < sizes (more t ts)) × WithinArea a b n
unfolding size
over_more t ts s g = (omega (arith, g.0, size_pos t), within_more (omega arith) g.1)
