-- Whether the list at a cell of an area is one application of digits, and the atom of a letter around it.
use Prim.Native.Nat.{ℕ, ◌<◌, ◌≤◌}
use native.Mathlib.Omega.{arith}
use mathlib.Core.Path.{◌≡◌, refl, sym, ap, ◌∙◌, subst}
use mathlib.Core.List.{[], ◌∷◌}
use mathlib.Core.Bool.{Bool, true, false}
use lib.ListN.{get_or}
use Rattle.std.specs.Prelude.{Option, Some, None, MatchOption}
use denote.Ref.{Bor}
use Rattle.rules.specs.Bytes.{Text}
use Rattle.rules.specs.Maybe.{◌>>=◌, guard}
use Rattle.rules.specs.Names.{digit, all}
use Rattle.rules.specs.Tree.{Tree, atom, apply, Trees, none, more, size}
use Rattle.rules.specs.Reading.{single, constant_name, atom_of}
use Rattle.tree.specs.declared.area.Area.{Area}
use Rattle.tree.specs.declared.kinds.Kind.{Kind}
use Rattle.tree.specs.declared.kinds.Kind.TheVariants.{Application, Variable, Atom}
use Rattle.tree.specs.Cells.{start_of, length_of, named, name_at}
use Rattle.tree.specs.Areas.{cell_kind, first_in, next_in, name_in, tree_in, trees_in, Pushes}
use Rattle.tree.proofs.ByKind.{tree_application, tree_a_variable, tree_an_atom}
use Rattle.tree.proofs.Keeping.{adds_push, pushed_some, pushed_inside, pushed_trees}
use Rattle.tree.proofs.Lists.{list_none, list_more}
use Rattle.closing.specs.Machine.{back}
use Rattle.closing.specs.Areas.{room_for, AloneIn, Shuts, ClosesIn}
use Rattle.closing.proofs.AtomTrees.{around, atom_back, no_atom, no_digits}
use Rattle.closing.proofs.Shuts.{closes_not}

pub alone_none : (a : Area) (k : ℕ) → k ≡ 0 → AloneIn a k false
unfolding atom_of
alone_none a k e n = rw (list_none a k e)

-- what the test says, once it is known
pub alone_is : (a : Area) (k : ℕ) {b q : Bool} → b ≡ q → AloneIn a k b → AloneIn a k q
alone_is a k e h = subst (AloneIn a k) e h

module _ (a : Area) (k : ℕ) (p : 0 < k) (q : k < a.free) where
  pub alone_several : {j : ℕ} → j ≡ next_in a k → 0 < j → j < k → AloneIn a k false
  unfolding atom_of
  alone_several {j} e h l n = rw (list_more a k p q e, list_more a j h (omega arith) refl)

  module _ {j : ℕ} (e : j ≡ next_in a k) (h : j ≤ 0) where
    one_tree : trees_in a k ≡ more (tree_in a k) none
    one_tree = list_more a k p q e ∙ ap (more (tree_in a k)) (list_none a j (omega arith))

    atom_one : (n : Text) → atom_of n (trees_in a k) ≡ around n (constant_name (tree_in a k))
    unfolding atom_of
    atom_one n = ap (λ (ts : Trees). single ts >>= λ t. around n (constant_name t)) one_tree

    -- no application
    pub alone_other : {r : Kind} → r ≡ cell_kind a k → (r ≡ Application → ⊥) → AloneIn a k false
    alone_other {r} f g n = atom_one n ∙ go r f g
      where
        go : (r : Kind) → r ≡ cell_kind a k → (r ≡ Application → ⊥) → around n (constant_name (tree_in a k)) ≡ None
        go Application f g = absurd (g refl)
        go (Variable v) f g = ap (λ (t : Tree). around n (constant_name t)) (tree_a_variable a k v (sym f))
        go (Atom c) f g = ap (λ (t : Tree). around n (constant_name t)) (tree_an_atom a k c (sym f))

    module _ (f : cell_kind a k ≡ Application) {i : ℕ} (g : i ≡ first_in a k) where
      applied : tree_in a k ≡ apply (name_in a k) (trees_in a i)
      applied = tree_application a k f ∙ ap (λ j. apply (name_in a k) (trees_in a j)) (sym g)

      pub alone_children : 0 < i → i < k → AloneIn a k false
      alone_children l m n = atom_one n ∙ ap (λ (t : Tree). around n (constant_name t)) (applied ∙ ap (apply (name_in a k)) (list_more a i l (omega arith) refl))

      module _ (l : i ≤ 0) where
        constant : tree_in a k ≡ apply (name_in a k) none
        constant = applied ∙ ap (apply (name_in a k)) (list_none a i (omega arith))

        atom_name : (n : Text) → atom_of n (trees_in a k) ≡ around n (Some (name_in a k))
        atom_name n = atom_one n ∙ ap (λ (t : Tree). around n (constant_name t)) constant

        -- a fixed name
        pub alone_fixed : length_of a.work.now k ≡ 0 → AloneIn a k false
        unfolding name_at named
        alone_fixed z n =
            let c = (a.arena.cell k p q).placed.code z in
            atom_name n ∙ rw (z, no_digits (start_of a.work.now k) c.0)

        pub alone_by : {b : Bool} {m : Text} → m ≡ name_in a k → b ≡ all digit m → AloneIn a k b
        alone_by {b} {m} s d = go b (d ∙ ap (all digit) s)
          where
            go : (b : Bool) → b ≡ all digit (name_in a k) → AloneIn a k b
            go true e = (p, one_tree ∙ ap (λ (t : Tree). more t none) constant, sym e)
            go false e = λ n. atom_name n ∙ ap (λ (b : Bool). guard b >>= λ _. Some (atom (get_or n 0 0) (name_in a k))) (sym e)

        -- by the name, where it is spelled
        pub alone_spelled : {b : Bool} (o : Option (Bor Text)) (Q : Bor Text → Type 0) → MatchOption o (length_of a.work.now k ≡ 0) (λ m. m.now ≡ name_in a k) → MatchOption o (b ≡ false) Q → ((m : Bor Text) → Q m → b ≡ all digit m.now) → AloneIn a k b
        alone_spelled None Q z r d = alone_is a k (sym r) (alone_fixed z)
        alone_spelled (Some m) Q s r d = alone_by s (d m r)

module _ (a : Area) (chain : ℕ) where
  pub atom_closes_not : (n : Text) (next : ℕ) → AloneIn a chain false → ClosesIn a a (room_for a chain) next (atom_of n (back (trees_in a chain) none)) None
  atom_closes_not n next h = closes_not a (room_for a chain) next (no_atom n (trees_in a chain) (h n))

  pub atom_shut : {b : Area} {letter next k : ℕ} → AloneIn a chain true → Pushes a b k next (atom letter (name_in a chain)) → Shuts a b (room_for a chain) next (atom_of (letter ∷ []) (back (trees_in a chain) none)) k
  unfolding size atom_of
  atom_shut {b} {letter} {next} {k} h x = record {
    tree = atom letter (name_in a chain);
    is = atom_back (letter ∷ []) (trees_in a chain) ∙ rw (h.1, h.2);
    small = omega arith;
    adds = adds_push x;
    used = omega (arith, x.end);
    some_cell = pushed_some x;
    inside = pushed_inside x;
    new = omega (arith, x.cell);
    last = omega (arith, x.cell, x.end);
    trees = pushed_trees x;
  }
