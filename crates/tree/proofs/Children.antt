-- The children of a cell by the number of its kind.
use Prim.Native.Nat.{ℕ}
use mathlib.Core.Path.{◌≡◌, refl, sym, ap, ◌∙◌}
use mathlib.Core.List.{List}
use Rattle.rules.specs.Bytes.{Text}
use Rattle.rules.specs.Tree.{none, children}
use Rattle.tree.specs.Cells.{kind_of, first_of, tree_at, trees_at}
use Rattle.tree.proofs.Decoding.{Kind, application, a_variable, an_atom, kind, tree_variable, tree_atom, tree_apply, trees_none}

module _ (s : Text) (w : List ℕ) (k : ℕ) where
  pub children_first : {j : ℕ} → kind_of w k ≡ 0 → j ≡ first_of w k → trees_at s w j ≡ children (tree_at s w k)
  unfolding children
  children_first e f = ap (trees_at s w) f ∙ sym (ap children (tree_apply s w k e))

  no_children : Kind (kind_of w k) → (kind_of w k ≡ 0 → ⊥) → children (tree_at s w k) ≡ none
  unfolding children
  no_children (application e) h = absurd (h e)
  no_children (a_variable p q) h = ap children (tree_variable s w k p q)
  no_children (an_atom p) h = ap children (tree_atom s w k p)

  pub children_leaf : (kind_of w k ≡ 0 → ⊥) → trees_at s w 0 ≡ children (tree_at s w k)
  children_leaf h = trees_none s w 0 refl ∙ sym (no_children (kind (kind_of w k)) h)
