-- What a tree of an area becomes, before a list.
use Prim.Native.Nat.{ℕ, ◌+◌, ◌<◌, ◌≤◌}
use mathlib.Core.Path.{◌≡◌, refl, sym, ap, ap₂, ◌∙◌}
use mathlib.Core.Logic.{◌⊎◌, inl, inr}
use native.Mathlib.Omega.{arith}
use Rattle.std.specs.Prelude.{Option}
use Rattle.rules.specs.Tree.{Tree, apply, none, more, size, sizes}
use Rattle.rules.specs.declared.Sort.{Sort}
use Rattle.rules.specs.Reduction.{root, normalize, normalizes}
use Rattle.laws.proofs.Reduction.Sizes.{normalizes_size}
use Rattle.tree.specs.declared.area.Area.{Area}
use Rattle.tree.specs.declared.kinds.Kind.{Kind}
use Rattle.tree.specs.declared.kinds.Kind.TheVariants.{Application, Variable, Atom}
use Rattle.tree.specs.Areas.{cell_kind, first_in, next_in, name_in, tree_in, trees_in, Grows, KeepsCells, Pushes}
use Rattle.tree.proofs.Decoding.{trees_none}
use Rattle.tree.proofs.Keeping.{adds_grows, grows_same, grows_keeps, grows_then, grows_name, grows_tree, grows_trees}
use Rattle.tree.proofs.ByKind.{tree_application, tree_a_variable, tree_an_atom, nodes_application}
use Rattle.tree.proofs.Lists.{list_more, list_size}
use Rattle.substitution.specs.Areas.{Puts}
use Rattle.substitution.proofs.Listing.{puts_push}
use Rattle.reduction.specs.Areas.{Becomes, BecomesList}

-- one cell at most
pub becomes_put : {a b : Area} {i next : ℕ} {t : Tree} → Puts a b i next t → b.free ≤ a.free + 1 → Becomes a b 1 next t i
becomes_put h u = record { grows = adds_grows h.adds; used = u; some_cell = h.some_cell; inside = h.inside; tree = h.tree; trees = h.trees }

pub becomes_push : {a b : Area} {i next : ℕ} {t : Tree} → Pushes a b i next t → Becomes a b 1 next t i
becomes_push h = becomes_put (puts_push h) (omega (arith, h.end))

-- after the area has grown
pub becomes_later : {a m b : Area} {n d next i : ℕ} {t : Tree} → next < a.free → Grows a m → m.free + n ≤ a.free + d → Becomes m b n next t i → Becomes a b d next t i
becomes_later {next = next} {t = t} q g u h = record {
  grows = grows_then g h.grows;
  used = omega (arith, h.used);
  some_cell = h.some_cell;
  inside = h.inside;
  tree = h.tree;
  trees = h.trees ∙ ap (more t) (grows_trees g next q);
}

-- the list of a name is the one that it has
pub over_own : (a : Area) (i : ℕ) {first : ℕ} → cell_kind a i ≡ Application → first_in a i ≡ first → tree_in a i ≡ apply (name_in a i) (trees_in a first)
over_own a i k e = tree_application a i k ∙ ap (λ (j : ℕ). apply (name_in a i) (trees_in a j)) e

-- no children
pub no_trees : (a : Area) → (trees_in a 0 ≡ none) × (1 ≡ 1 + sizes (trees_in a 0))
unfolding size
no_trees a = let e = trees_none a.sheet.now a.work.now 0 refl in (e, omega (arith, ap sizes e))

-- what a rule makes after the words above the cells were used
module _ {a m b : Area} {next j : ℕ} (g : KeepsCells a m) (q : next < a.free) where
  pub fired_cell : (k : ℕ) → 0 < k → k < a.free → Puts m b j next (tree_in m k) → b.free ≤ m.free + 1 → Becomes a b 1 next (tree_in a k) j
  fired_cell k p r h u = rw (← grows_tree (grows_keeps g) k r p) (becomes_later q (grows_keeps g) (omega (arith, g.end)) (becomes_put h u))

  pub fired_name : {t : Tree} → Pushes m b j next t → Becomes a b 1 next t j
  fired_name h = becomes_later q (grows_keeps g) (omega (arith, g.end)) (becomes_push h)

  pub fired_none : (i first : ℕ) → i < a.free → first < a.free → Becomes m b 1 next (apply (name_in m i) (trees_in m first)) j → Becomes a b 1 next (apply (name_in a i) (trees_in a first)) j
  fired_none i first r s h = rw (← grows_name (grows_keeps g) i r, ← grows_trees (grows_keeps g) first s) (becomes_later q (grows_keeps g) (omega (arith, g.end)) h)

-- a leaf is its own normal form
module _ (a : Area) (k : ℕ) where
  variable_normal : (v : Option Sort) → cell_kind a k ≡ Variable v → (normalize (tree_in a k) ≡ tree_in a k) × (size (tree_in a k) ≡ 1)
  unfolding normalize size
  variable_normal v e = let f = tree_a_variable a k v e in (ap normalize f ∙ sym f, ap size f)

  atom_normal : (c : ℕ) → cell_kind a k ≡ Atom c → (normalize (tree_in a k) ≡ tree_in a k) × (size (tree_in a k) ≡ 1)
  unfolding normalize size
  atom_normal c e = let f = tree_an_atom a k c e in (ap normalize f ∙ sym f, ap size f)

  pub becomes_leaf : {b : Area} {next j : ℕ} {x : Kind} → x ≡ cell_kind a k → ((v : Option Sort) × (x ≡ Variable v)) ⊎ ((c : ℕ) × (x ≡ Atom c)) → Becomes a b 1 next (tree_in a k) j
      → Becomes a b (size (tree_in a k)) next (normalize (tree_in a k)) j
  becomes_leaf e (inl (v, f)) h = let n = variable_normal v (sym e ∙ f) in rw (n.0, n.1) h
  becomes_leaf e (inr (c, f)) h = let n = atom_normal c (sym e ∙ f) in rw (n.0, n.1) h

-- an application over the list of its children
module _ (a : Area) (k first : ℕ) (e : cell_kind a k ≡ Application) (f : first ≡ first_in a k) where
  application_normal : normalize (tree_in a k) ≡ root (name_in a k) (normalizes (trees_in a first))
  unfolding normalize
  application_normal = ap normalize (over_own a k e (sym f))

  -- and over what they become
  module _ {m : Area} {j : ℕ} (h : BecomesList a m (sizes (trees_in a first)) (normalizes (trees_in a first)) j) where
    pub listed_size : sizes (trees_in m j) < size (tree_in a k)
    listed_size = omega (arith, nodes_application a k e f, normalizes_size (trees_in a first), ap sizes h.trees)

    pub listed_end : m.free + 1 ≤ a.free + size (tree_in a k)
    listed_end = omega (arith, nodes_application a k e f, h.used)

    pub becomes_root : {b : Area} {next i : ℕ} → k < a.free → next < a.free → Becomes m b 1 next (root (name_in m k) (trees_in m j)) i → Becomes a b (size (tree_in a k)) next (normalize (tree_in a k)) i
    becomes_root q r d = rw (application_normal, ← h.trees, ← grows_name h.grows k q) (becomes_later r h.grows listed_end d)

-- lists
pub becomes_none : (a : Area) (k : ℕ) → k ≡ 0 → BecomesList a a (sizes (trees_in a k)) (normalizes (trees_in a k)) 0
unfolding normalize
becomes_none a k e = record {
  grows = grows_same a;
  used = omega arith;
  inside = a.arena.links.some;
  trees = trees_none a.sheet.now a.work.now 0 refl ∙ sym (ap normalizes (trees_none a.sheet.now a.work.now k e));
}

module _ (a : Area) (k rest : ℕ) (p : 0 < k) (q : k < a.free) (f : rest ≡ next_in a k) where
  module _ {m : Area} {j : ℕ} (h : BecomesList a m (sizes (trees_in a rest)) (normalizes (trees_in a rest)) j) where
    pub later_tree : tree_in m k ≡ tree_in a k
    later_tree = grows_tree h.grows k q p

    pub becomes_more : {b : Area} {i : ℕ} → Becomes m b (size (tree_in m k)) j (normalize (tree_in m k)) i → BecomesList a b (sizes (trees_in a k)) (normalizes (trees_in a k)) i
    unfolding normalize
    becomes_more d = record {
      grows = grows_then h.grows d.grows;
      used = omega (arith, h.used, d.used, list_size a k p q f, ap size later_tree);
      inside = d.inside;
      trees = d.trees ∙ ap₂ more (ap normalize later_tree) h.trees ∙ sym (ap normalizes (list_more a k p q f));
    }
