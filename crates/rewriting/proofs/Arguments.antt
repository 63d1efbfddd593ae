-- The children of a cell of an area, as many as a rule asks for.
use Prim.Native.Nat.{ℕ, zero, suc, ◌<◌}
use mathlib.Core.Path.{◌≡◌, refl, sym, ap, ◌∙◌}
use mathlib.Core.Bool.{Bool, true, false, cond}
use native.Mathlib.Omega.{arith}
use borrow.Author.Tests.{ne_eqb}
use Rattle.std.specs.Prelude.{Option, Some, None, IfSome, option_map}
use Rattle.std.specs.Option.{option_eq}
use lib.Dec.{eqb}
use Rattle.rules.specs.Bytes.{Text, same}
use Rattle.rules.specs.Maybe.{◌>>=◌, guard}
use Rattle.rules.specs.Tree.{Tree, Trees, none, more}
use Rattle.rules.specs.Reduction.{arguments0, arguments1, arguments2, arguments_of}
use Rattle.tree.specs.declared.area.Area.{Area}
use Rattle.rules.specs.declared.Sort.{Sort}
use Rattle.tree.specs.declared.kinds.Kind.TheVariants.{Application, Variable, Atom}
use Rattle.tree.specs.Areas.{cell_kind, first_in, next_in, name_in, tree_in, trees_in}
use Rattle.tree.proofs.Lists.{list_none, list_more}
use Rattle.tree.proofs.ByKind.{tree_application, tree_a_variable, tree_an_atom}

-- a list of no tree
module _ (a : Area) (i : ℕ) where
  pub none_no_one : i ≡ 0 → arguments1 (trees_in a i) ≡ None
  none_no_one e = ap arguments1 (list_none a i e)

  pub none_no_two : i ≡ 0 → arguments2 (trees_in a i) ≡ None
  none_no_two e = ap arguments2 (list_none a i e)

-- a tree and another
abbrev with_first : Tree → Option Tree → Option (Tree × Tree)
with_first t o = option_map (λ u. (t, u)) o

after : (t : Tree) (ts : Trees) → arguments2 (more t ts) ≡ with_first t (arguments1 ts)
after t none = refl
after t (more u none) = refl
after t (more u (more v ts)) = refl

module _ (a : Area) (i : ℕ) (p : 0 < i) (q : i < a.free) where
  pub only_one : next_in a i ≡ 0 → arguments1 (trees_in a i) ≡ Some (tree_in a i)
  only_one e = ap arguments1 (list_more a i p q refl ∙ ap (more (tree_in a i)) (list_none a (next_in a i) e))

  pub others_after : 0 < next_in a i → arguments1 (trees_in a i) ≡ None
  others_after h = ap arguments1 (list_more a i p q refl ∙ ap (more (tree_in a i)) (list_more a (next_in a i) h (omega (arith, a.arena.links.next i p q)) refl))

  -- the second of two is the only one after the first
  pub second_alone : {j : ℕ} (o : Option ℕ) → j ≡ next_in a i → arguments1 (trees_in a j) ≡ option_map (tree_in a) o → arguments2 (trees_in a i) ≡ option_map (λ k. (tree_in a i, tree_in a k)) o
  second_alone {j} o f e =
      ap arguments2 (list_more a i p q refl) ∙ after (tree_in a i) (trees_in a (next_in a i)) ∙ ap (λ (k : ℕ). with_first (tree_in a i) (arguments1 (trees_in a k))) (sym f)
      ∙ ap (with_first (tree_in a i)) e ∙ mapped o
    where
      mapped : (o : Option ℕ) → with_first (tree_in a i) (option_map (tree_in a) o) ≡ option_map (λ k. (tree_in a i, tree_in a k)) o
      mapped None = refl
      mapped (Some k) = refl

-- the children under a name, by the kind of the cell
module _ (a : Area) (f : Text) (k : ℕ) where
  pub application_arguments : cell_kind a k ≡ Application → arguments_of f (tree_in a k) ≡ cond (same (name_in a k) f) (Some (trees_in a (first_in a k))) None
  unfolding arguments_of
  application_arguments e = ap (arguments_of f) (tree_application a k e) ∙ guarded (same (name_in a k) f) (trees_in a (first_in a k))
    where
      guarded : (b : Bool) (ts : Trees) → (guard b >>= λ _. Some ts) ≡ cond b (Some ts) None
      guarded true ts = refl
      guarded false ts = refl

  pub variable_arguments : (v : Option Sort) → cell_kind a k ≡ Variable v → arguments_of f (tree_in a k) ≡ None
  unfolding arguments_of
  variable_arguments v e = ap (arguments_of f) (tree_a_variable a k v e)

  pub atom_arguments : (c : ℕ) → cell_kind a k ≡ Atom c → arguments_of f (tree_in a k) ≡ None
  unfolding arguments_of
  atom_arguments c e = ap (arguments_of f) (tree_an_atom a k c e)

-- no arguments
pub no_children : (a : Area) (o : Option ℕ) → IfSome o (λ i. i < a.free) → (option_map (trees_in a) o >>= arguments0) ≡ guard (option_eq eqb o (Some 0))
no_children a None h = refl
no_children a (Some zero) h = ap arguments0 (list_none a 0 refl)
no_children a (Some (suc i)) h = ap arguments0 (list_more a (suc i) (omega arith) h refl) ∙ ap guard (sym (ne_eqb (suc i) 0 (omega arith)))
