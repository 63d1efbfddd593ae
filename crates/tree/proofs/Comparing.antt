-- Equality of the trees of two cells.
use Prim.Native.Nat.{ℕ, ◌<◌}
use mathlib.Core.Path.{◌≡◌, refl, sym, ap, ap₂, ◌∙◌}
use mathlib.Core.Bool.{Bool, false, ◌&&◌}
use mathlib.Core.List.{List}
use lib.Dec.{eqb}
use native.Mathlib.Omega.{arith}
use native.Mathlib.Decide.{dec_lt}
use borrow.Author.Tests.{eq-eqb, ne_eqb}
use Rattle.rules.specs.Bytes.{Text, same}
use Rattle.rules.specs.Tree.{same_tree, same_trees}
use Rattle.laws.proofs.Basics.Tests.{differ_of_ne}
use Rattle.tree.specs.Cells.{kind_of, variable_kind, name_at, first_of, next_of, tree_at, trees_at}
use Rattle.tree.specs.Arena.{Links, Cell}
use Rattle.std.specs.Prelude.{Option}
use Rattle.rules.specs.declared.Sort.{Sort}
use Rattle.tree.specs.declared.area.Area.{Area}
use Rattle.tree.specs.declared.kinds.Kind.TheVariants.{Variable, Atom}
use Rattle.tree.specs.Kinds.{coded_kind}
use Rattle.tree.specs.Areas.{cell_kind, name_in, tree_in}
use Rattle.tree.proofs.ByKind.{tree_a_variable, tree_an_atom}
use Rattle.tree.proofs.Decoding.{Kind, application, a_variable, an_atom, kind, tree_variable, tree_atom, tree_apply, trees_none, trees_more}

module _ (s : Text) (w : List ℕ) (i j : ℕ) where
  -- cells of different kinds
  pub kinds_differ : Cell s w i → Cell s w j → (kind_of w i ≡ kind_of w j → ⊥) → Kind (kind_of w i) → Kind (kind_of w j) → false ≡ same_tree (tree_at s w i) (tree_at s w j)
  unfolding same_tree
  kinds_differ c d h (application e) (application f) = absurd (h (e ∙ sym f))
  kinds_differ c d h (application e) (a_variable p q) = sym (ap₂ same_tree (tree_apply s w i e) (tree_variable s w j p q))
  kinds_differ c d h (application e) (an_atom p) = sym (ap₂ same_tree (tree_apply s w i e) (tree_atom s w j p))
  kinds_differ c d h (a_variable p q) (application f) = sym (ap₂ same_tree (tree_variable s w i p q) (tree_apply s w j f))
  kinds_differ c d h (a_variable p q) (a_variable p₁ q₁) =
      sym (ap₂ same_tree (tree_variable s w i p q) (tree_variable s w j p₁ q₁) ∙ differ_of_ne (λ e. h (c.sorted p q ∙ ap variable_kind e ∙ sym (d.sorted p₁ q₁))))
  kinds_differ c d h (a_variable p q) (an_atom p₁) = sym (ap₂ same_tree (tree_variable s w i p q) (tree_atom s w j p₁))
  kinds_differ c d h (an_atom p) (application f) = sym (ap₂ same_tree (tree_atom s w i p) (tree_apply s w j f))
  kinds_differ c d h (an_atom p) (a_variable p₁ q₁) = sym (ap₂ same_tree (tree_atom s w i p) (tree_variable s w j p₁ q₁))
  kinds_differ c d h (an_atom p) (an_atom p₁) = sym (ap₂ same_tree (tree_atom s w i p) (tree_atom s w j p₁) ∙ rw (ne_eqb (kind_of w i) (kind_of w j) h))

  pub applications : (x y : ℕ) (b all : Bool) → kind_of w i ≡ 0 → kind_of w j ≡ 0 → x ≡ first_of w i → y ≡ first_of w j → b ≡ same (name_at s w i) (name_at s w j) → all ≡ same_trees (trees_at s w x) (trees_at s w y) → b && all ≡ same_tree (tree_at s w i) (tree_at s w j)
  unfolding same_tree
  applications x y b all e f g h k l = sym (ap₂ same_tree (tree_apply s w i e) (tree_apply s w j f) ∙ (rw (← k, ← g, ← h, ← l)))

  pub lists : (n x y : ℕ) (b all : Bool) → Links w n → 0 < i → i < n → 0 < j → j < n → x ≡ next_of w i → y ≡ next_of w j → b ≡ same_tree (tree_at s w i) (tree_at s w j) → all ≡ same_trees (trees_at s w x) (trees_at s w y) → b && all ≡ same_trees (trees_at s w i) (trees_at s w j)
  unfolding same_tree
  lists n x y b all l p q p₁ q₁ g h k m = sym (ap₂ same_trees (trees_more s l i p q) (trees_more s l j p₁ q₁) ∙ (rw (← k, ← g, ← h, ← m)))

  pub none_first : (n : ℕ) → Links w n → i ≡ 0 → j < n → eqb j 0 ≡ same_trees (trees_at s w i) (trees_at s w j)
  unfolding same_tree
  none_first n l e q = elim (dec_lt 0 j) [
    | no p ↦ (rw (eq-eqb j 0 (omega arith))) ∙ sym (ap₂ same_trees (trees_none s w i e) (trees_none s w j (omega arith)))
    | yes p ↦ (rw (ne_eqb j 0 (omega arith))) ∙ sym (ap₂ same_trees (trees_none s w i e) (trees_more s l j p q))
  ]

  pub none_second : (n : ℕ) → Links w n → 0 < i → i < n → j ≡ 0 → false ≡ same_trees (trees_at s w i) (trees_at s w j)
  unfolding same_tree
  none_second n l p q e = sym (ap₂ same_trees (trees_more s l i p q) (trees_none s w j e))

-- two cells of an area by their kinds
module _ (a : Area) (i j : ℕ) where
  pub kinds_apart : 0 < i → i < a.free → 0 < j → j < a.free → (cell_kind a i ≡ cell_kind a j → ⊥) → false ≡ same_tree (tree_in a i) (tree_in a j)
  kinds_apart p q r t h =
      let w = a.work.now in
      kinds_differ a.sheet.now w i j (a.arena.cell i p q) (a.arena.cell j r t) (λ e. h (ap coded_kind e)) (kind (kind_of w i)) (kind (kind_of w j))

  pub both_variables : (v : Option Sort) → cell_kind a i ≡ Variable v → cell_kind a j ≡ Variable v → same (name_in a i) (name_in a j) ≡ same_tree (tree_in a i) (tree_in a j)
  unfolding same_tree
  both_variables v e f = sym (ap₂ same_tree (tree_a_variable a i v e) (tree_a_variable a j v f))

  pub both_atoms : (c : ℕ) → cell_kind a i ≡ Atom c → cell_kind a j ≡ Atom c → same (name_in a i) (name_in a j) ≡ same_tree (tree_in a i) (tree_in a j)
  unfolding same_tree
  both_atoms c e f =
      ap (λ (b : Bool). b && same (name_in a i) (name_in a j)) (sym (eq-eqb c c refl))
      ∙ sym (ap₂ same_tree (tree_an_atom a i c e) (tree_an_atom a j c f))
