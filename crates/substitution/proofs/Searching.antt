-- Occurrence of variables at a cell of an area, and what is looked up in bindings there.
use Prim.Native.Nat.{ℕ, ◌<◌}
use mathlib.Core.Path.{◌≡◌, refl, sym, ap, ◌∙◌}
use mathlib.Core.List.{List, [], ◌∷◌}
use native.Mathlib.Omega.{arith}
use mathlib.Core.Bool.{true, false}
use Rattle.std.specs.Prelude.{Option, Some, None}
use Rattle.rules.specs.Bytes.{Text, same}
use Rattle.rules.specs.Tree.{occurs, occurs_in, ground, grounds}
use Rattle.rules.specs.Matching.{bound}
use Rattle.rules.specs.declared.Sort.{Sort}
use Rattle.tree.specs.declared.area.Area.{Area}
use Rattle.tree.specs.declared.kinds.Kind.TheVariants.{Application, Variable, Atom}
use Rattle.tree.specs.Areas.{cell_kind, first_in, next_in, name_in, tree_in, trees_in}
use Rattle.tree.proofs.ByKind.{tree_application, tree_a_variable, tree_an_atom}
use Rattle.substitution.specs.Areas.{bindings_in, FindsIn}
use Rattle.tree.specs.Lists.{cells_from}
use Rattle.substitution.proofs.ByCells.{cells_end, cells_step}
use Rattle.substitution.proofs.Keys.{bindings_none, bindings_odd, bound_here, bound_on, found_at, found_nothing}

module _ (a : Area) (k : ℕ) where
  pub ground_application : cell_kind a k ≡ Application → ground (tree_in a k) ≡ grounds (trees_in a (first_in a k))
  unfolding ground
  ground_application e = ap ground (tree_application a k e)

  pub ground_variable : (v : Option Sort) → cell_kind a k ≡ Variable v → ground (tree_in a k) ≡ false
  unfolding ground
  ground_variable v e = ap ground (tree_a_variable a k v e)

  pub ground_atom : (c : ℕ) → cell_kind a k ≡ Atom c → ground (tree_in a k) ≡ true
  unfolding ground
  ground_atom c e = ap ground (tree_an_atom a k c e)

  module _ (x : Text) where
    pub occurs_application : cell_kind a k ≡ Application → occurs x (tree_in a k) ≡ occurs_in x (trees_in a (first_in a k))
    unfolding occurs
    occurs_application e = ap (occurs x) (tree_application a k e)

    pub occurs_variable : (v : Option Sort) → cell_kind a k ≡ Variable v → occurs x (tree_in a k) ≡ same (name_in a k) x
    unfolding occurs
    occurs_variable v e = ap (occurs x) (tree_a_variable a k v e)

    pub occurs_atom : (c : ℕ) → cell_kind a k ≡ Atom c → occurs x (tree_in a k) ≡ false
    unfolding occurs
    occurs_atom c e = ap (occurs x) (tree_an_atom a k c e)

pub ruleset ground_by_kind = (ground_application, ground_variable, ground_atom)

pub ruleset occurs_by_kind = (occurs_application, occurs_variable, occurs_atom)

-- the bindings from a key's cell k on answer for those from cell b on
module _ (a : Area) (x : Text) (b k : ℕ) (i : bound x (bindings_in a b) ≡ bound x (bindings_in a k)) where
  pub finds_none : k ≡ 0 → FindsIn a (bindings_in a b) x None
  unfolding bound
  finds_none z = found_nothing x (bindings_in a b) (i ∙ ap (bound x) (bindings_none a.sheet.now a.work.now k z))

  module _ (v : ℕ) (p : 0 < k) (q : k < a.free) (e : v ≡ next_in a k) where
    pub finds_odd : v ≡ 0 → FindsIn a (bindings_in a b) x None
    unfolding bound
    finds_odd z = found_nothing x (bindings_in a b) (i ∙ ap (bound x) (bindings_odd a.sheet.now a.arena.links k v p q e z))

    module _ (y : 0 < v) where
      value_inside : v < a.free
      value_inside = omega (arith, a.arena.links.next k p q)

      pub finds_here : same (name_in a k) x ≡ true → FindsIn a (bindings_in a b) x (Some v)
      finds_here h =
          let f = i ∙ bound_here a.sheet.now a.arena.links k v p q e x y value_inside h in
          let g = found_at {w = a.work.now} y value_inside f in
          record { some_cell = y; inside = value_inside; is_bound = f; is_value = g.is_value }

      pub finds_on : (j : ℕ) → j ≡ next_in a v → same (name_in a k) x ≡ false → bound x (bindings_in a b) ≡ bound x (bindings_in a j)
      finds_on j f h = i ∙ bound_on a.sheet.now a.arena.links k v p q e x y value_inside j f h

-- the bindings from a cell k on, whose list of cells is ks, answer for those from cell b on
pub record Searched (a : Area) (x : Text) (b : ℕ) (ks : List ℕ) : Type 0 where
  pub key : ℕ
  pub inside : key < a.free
  pub cells : ks ≡ cells_from a key
  pub answers : bound x (bindings_in a b) ≡ bound x (bindings_in a key)

pub searched_all : (a : Area) (x : Text) (b : ℕ) {ks : List ℕ} → b < a.free → ks ≡ cells_from a b → Searched a x b ks
searched_all a x b q e = record { key = b; inside = q; cells = e; answers = refl }

module _ {a : Area} {x : Text} {b : ℕ} {ks : List ℕ} (h : Searched a x b ks) where
  pub searched_none : ks ≡ [] → FindsIn a (bindings_in a b) x None
  searched_none e = finds_none a x b h.key h.answers (cells_end a h.key h.inside (sym h.cells ∙ e))

  module _ {k : ℕ} {js : List ℕ} (e : ks ≡ k ∷ js) where
    key_step : (0 < h.key) × (k ≡ h.key) × (js ≡ cells_from a (next_in a h.key)) × (next_in a h.key < a.free)
    key_step = cells_step a h.key h.inside (sym h.cells ∙ e)

    pub searched_cell : (0 < k) × (k < a.free)
    searched_cell = (omega (arith, key_step.0, key_step.1), omega (arith, h.inside, key_step.1))

    pub searched_odd : js ≡ [] → FindsIn a (bindings_in a b) x None
    searched_odd f =
        let s = key_step in
        finds_odd a x b h.key h.answers (next_in a h.key) s.0 h.inside refl (cells_end a (next_in a h.key) s.3 (sym s.2 ∙ f))

    module _ {v : ℕ} {is : List ℕ} (f : js ≡ v ∷ is) where
      value_step : (0 < next_in a h.key) × (v ≡ next_in a h.key) × (is ≡ cells_from a (next_in a (next_in a h.key))) × (next_in a (next_in a h.key) < a.free)
      value_step = cells_step a (next_in a h.key) key_step.3 (sym key_step.2 ∙ f)

      pub searched_here : same (name_in a k) x ≡ true → FindsIn a (bindings_in a b) x (Some v)
      searched_here g =
          let s = key_step in
          let t = value_step in
          finds_here a x b h.key h.answers v s.0 h.inside t.1 (omega (arith, t.0, t.1)) (ap (λ (i : ℕ). same (name_in a i) x) (sym s.1) ∙ g)

      pub searched_on : same (name_in a k) x ≡ false → Searched a x b is
      searched_on g =
          let s = key_step in
          let t = value_step in
          record {
            key = next_in a (next_in a h.key);
            inside = t.3;
            cells = t.2;
            answers = finds_on a x b h.key h.answers (next_in a h.key) s.0 h.inside refl t.0 (next_in a (next_in a h.key)) refl (ap (λ (i : ℕ). same (name_in a i) x) (sym s.1) ∙ g);
          }
