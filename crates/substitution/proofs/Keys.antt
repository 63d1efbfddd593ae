-- Bindings, cell by cell, and what is looked up in them.
use Prim.Native.Nat.{ℕ, ◌<◌}
use mathlib.Core.Path.{◌≡◌, refl, sym, ap, ◌∙◌}
use mathlib.Core.Bool.{Bool, true, false}
use mathlib.Core.List.{List, [], ◌∷◌}
use Rattle.std.specs.Prelude.{Option, Some, None}
use Rattle.rules.specs.Bytes.{Text, same}
use Rattle.rules.specs.Maybe.{otherwise}
use Rattle.rules.specs.Tree.{Tree, variable, more}
use Rattle.rules.specs.Substitution.{Binding, pick, lookup}
use Rattle.rules.specs.Matching.{or_else, bound}
use Rattle.tree.specs.Cells.{kind_of, name_at, next_of, tree_at, trees_at}
use Rattle.tree.specs.Arena.{Links}
use Rattle.tree.proofs.Decoding.{Kind, application, a_variable, an_atom, kind, tree_variable, tree_atom, tree_apply, trees_none, trees_more}
use Rattle.substitution.specs.Bindings.{key_of, bindings_of, bindings_at, FoundAt}

-- a cell is a key by its name
pub key_name : (s : Text) (w : List ℕ) (k : ℕ) → Kind (kind_of w k) → key_of (tree_at s w k) ≡ name_at s w k
unfolding key_of
key_name s w k (application e) = ap key_of (tree_apply s w k e)
key_name s w k (a_variable p q) = ap key_of (tree_variable s w k p q)
key_name s w k (an_atom p) = ap key_of (tree_atom s w k p)

pub bindings_none : (s : Text) (w : List ℕ) (k : ℕ) → k ≡ 0 → bindings_at s w k ≡ []
unfolding bindings_of
bindings_none s w k e = ap bindings_of (trees_none s w k e)

module _ {w : List ℕ} {n : ℕ} (s : Text) (l : Links w n) (k v : ℕ) (p : 0 < k) (q : k < n) (e : v ≡ next_of w k) where
  -- a key with no value
  pub bindings_odd : v ≡ 0 → bindings_at s w k ≡ []
  unfolding bindings_of
  bindings_odd z = ap bindings_of (trees_more s l k p q ∙ ap (more (tree_at s w k)) (trees_none s w (next_of w k) (sym e ∙ z)))

  -- a key, its value and the bindings after it
  pub bindings_more : 0 < v → v < n → bindings_at s w k ≡ (name_at s w k, tree_at s w v) ∷ bindings_at s w (next_of w v)
  unfolding bindings_of
  bindings_more a b =
      ap bindings_of (trees_more s l k p q ∙ ap (more (tree_at s w k)) (ap (trees_at s w) (sym e) ∙ trees_more s l v a b))
      ∙ ap (λ (x : Text). (x, tree_at s w v) ∷ bindings_at s w (next_of w v)) (key_name s w k (kind (kind_of w k)))

  module _ (x : Text) (a : 0 < v) (b : v < n) where
    pub bound_here : same (name_at s w k) x ≡ true → bound x (bindings_at s w k) ≡ Some (tree_at s w v)
    unfolding bound
    bound_here h = ap (bound x) (bindings_more a b) ∙ rw h

    pub bound_on : (j : ℕ) → j ≡ next_of w v → same (name_at s w k) x ≡ false → bound x (bindings_at s w k) ≡ bound x (bindings_at s w j)
    unfolding bound
    bound_on j f h = ap (bound x) (bindings_more a b) ∙ (rw (h, f))

-- what is looked up is the value that the variable is bound to, or the variable itself
lookup_bound : (x : Text) (bs : List Binding) → lookup bs x ≡ otherwise (bound x bs) (variable x)
unfolding lookup bound
lookup_bound x [] = refl
lookup_bound x (b ∷ bs) = go (same b.0 x) (lookup_bound x bs)
  where
    go : (c : Bool) → lookup bs x ≡ otherwise (bound x bs) (variable x) → pick c b.1 (lookup bs x) ≡ otherwise (or_else c b.1 (bound x bs)) (variable x)
    go true h = refl
    go false h = h

pub found_at : {s : Text} {w : List ℕ} {n : ℕ} {bs : List Binding} {x : Text} {k : ℕ} → 0 < k → k < n → bound x bs ≡ Some (tree_at s w k) → FoundAt s w n bs x k
found_at {bs = bs} {x = x} p q e = record {
  some_cell = p;
  inside = q;
  is_bound = e;
  is_value = lookup_bound x bs ∙ ap (λ (o : Option Tree). otherwise o (variable x)) e;
}

pub found_nothing : (x : Text) (bs : List Binding) → bound x bs ≡ None → (bound x bs ≡ None) × (lookup bs x ≡ variable x)
found_nothing x bs e = (e, lookup_bound x bs ∙ ap (λ (o : Option Tree). otherwise o (variable x)) e)
