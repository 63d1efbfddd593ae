-- Instances of the trees of an area.
use Prim.Native.Nat.{ℕ, ◌<◌}
use mathlib.Core.Path.{◌≡◌, sym, ap, ap₂, ◌∙◌}
use Rattle.std.specs.Prelude.{Option}
use Rattle.rules.specs.Tree.{Tree, apply, Trees, none, more}
use Rattle.rules.specs.Substitution.{lookup, substitute, substitutes, instantiate}
use Rattle.rules.specs.declared.Sort.{Sort}
use Rattle.tree.specs.declared.area.Area.{Area}
use Rattle.tree.specs.declared.kinds.Kind.TheVariants.{Application, Variable, Atom}
use Rattle.tree.specs.Areas.{cell_kind, first_in, next_in, name_in, tree_in, Grows}
use Rattle.tree.proofs.Decoding.{trees_none, trees_more}
use Rattle.tree.proofs.Keeping.{grows_tree, grows_trees}
use Rattle.tree.proofs.ByKind.{tree_application, tree_a_variable, tree_an_atom}
use Rattle.substitution.specs.Bindings.{bindings_of}
use Rattle.substitution.specs.Areas.{bindings_in, instance_in, instances_in}

module _ (a : Area) (b k : ℕ) where
  pub instance_application : (j : ℕ) → j ≡ first_in a k → cell_kind a k ≡ Application → instance_in a b k ≡ apply (name_in a k) (instances_in a b j)
  unfolding substitute
  instance_application j f e = ap (instantiate (bindings_in a b)) (tree_application a k e) ∙ rw f

  pub instance_atom : (c : ℕ) → cell_kind a k ≡ Atom c → tree_in a k ≡ instance_in a b k
  unfolding substitute
  instance_atom c e = tree_an_atom a k c e ∙ sym (ap (instantiate (bindings_in a b)) (tree_an_atom a k c e))

  pub instance_variable : (v : Option Sort) → cell_kind a k ≡ Variable v → instance_in a b k ≡ lookup (bindings_in a b) (name_in a k)
  unfolding substitute
  instance_variable v e = ap (instantiate (bindings_in a b)) (tree_a_variable a k v e)

  pub instances_none : k ≡ 0 → instances_in a b k ≡ none
  unfolding substitute
  instances_none e = ap (substitutes (lookup (bindings_in a b))) (trees_none a.sheet.now a.work.now k e)

  pub instances_more : (j : ℕ) → j ≡ next_in a k → 0 < k → k < a.free → instances_in a b k ≡ more (instance_in a b k) (instances_in a b j)
  unfolding substitute
  instances_more j f p q = ap (substitutes (lookup (bindings_in a b))) (trees_more a.sheet.now a.arena.links k p q) ∙ rw f

-- the same in the area as it is later
pub instance_later : {a m : Area} (b k : ℕ) → Grows a m → b < a.free → 0 < k → k < a.free → instance_in m b k ≡ instance_in a b k
instance_later b k h r p q = ap₂ (λ (ts : Trees) (t : Tree). instantiate (bindings_of ts) t) (grows_trees h b r) (grows_tree h k q p)
