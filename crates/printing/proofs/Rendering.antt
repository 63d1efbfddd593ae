-- How a cell is written, by its kind.
use Prim.Native.Nat.{ℕ, ◌<◌}
use mathlib.Core.Path.{◌≡◌, refl, sym, ap, ◌∙◌}
use mathlib.Core.List.{List, [], ◌∷◌, ◌++◌, append_assoc, append-nil}
use borrow.Author.Tests.{eq-eqb, ne_eqb}
use Rattle.std.specs.Prelude.{Option}
use Rattle.rules.specs.Bytes.{Text}
use Rattle.rules.specs.Tree.{atom_text}
use Rattle.rules.specs.declared.Sort.{Sort}
use Rattle.rules.specs.Writing.{commas, listed, render, renders}
use Rattle.tree.specs.declared.area.Area.{Area}
use Rattle.tree.specs.declared.kinds.Kind.TheVariants.{Application, Variable, Atom}
use Rattle.tree.specs.Areas.{cell_kind, first_in, next_in, name_in, tree_in, trees_in}
use Rattle.printing.specs.Marked.{marked}
use Rattle.tree.proofs.Decoding.{trees_none, trees_more}
use Rattle.tree.proofs.ByKind.{tree_application, tree_a_variable, tree_an_atom}

marked_commas : (ts : List Text) → marked 44 ts ≡ commas ts ++ (41 ∷ [])
unfolding marked commas
marked_commas [] = refl
marked_commas (t ∷ ts) = ap (λ (x : Text). 44 ∷ (t ++ x)) (marked_commas ts) ∙ ap (λ (x : Text). 44 ∷ x) (sym (append_assoc t (commas ts) (41 ∷ [])))

listed_marked : (n : Text) (ts : List Text) → listed n ts ≡ n ++ marked 40 ts
unfolding listed marked
listed_marked n [] = sym (append-nil n)
listed_marked n (t ∷ ts) = rw (marked_commas ts) (simp append_assoc)

module _ (a : Area) (k : ℕ) where
  pub render_variable : (v : Option Sort) → cell_kind a k ≡ Variable v → render (tree_in a k) ≡ name_in a k
  unfolding render
  render_variable v e = ap render (tree_a_variable a k v e)

  pub render_atom : (c : ℕ) → cell_kind a k ≡ Atom c → render (tree_in a k) ≡ atom_text c (name_in a k)
  unfolding render
  render_atom c e = ap render (tree_an_atom a k c e)

  pub render_application : cell_kind a k ≡ Application → render (tree_in a k) ≡ name_in a k ++ marked 40 (renders (trees_in a (first_in a k)))
  unfolding render
  render_application e = ap render (tree_application a k e) ∙ listed_marked (name_in a k) (renders (trees_in a (first_in a k)))

  pub marked_open : (m : ℕ) → k ≡ 0 → m ≡ 40 → marked m (renders (trees_in a k)) ≡ []
  unfolding render marked
  marked_open m e f = ap (λ x. marked m (renders x)) (trees_none a.sheet.now a.work.now k e) ∙ rw (eq-eqb m 40 f)

  pub marked_close : (m : ℕ) → k ≡ 0 → (m ≡ 40 → ⊥) → marked m (renders (trees_in a k)) ≡ 41 ∷ []
  unfolding render marked
  marked_close m e f = ap (λ x. marked m (renders x)) (trees_none a.sheet.now a.work.now k e) ∙ rw (ne_eqb m 40 f)

  pub marked_more : (m : ℕ) → 0 < k → k < a.free → marked m (renders (trees_in a k)) ≡ m ∷ (render (tree_in a k) ++ marked 44 (renders (trees_in a (next_in a k))))
  unfolding render marked
  marked_more m p q = ap (λ x. marked m (renders x)) (trees_more a.sheet.now a.arena.links k p q)
