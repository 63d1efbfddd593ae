-- A key against a tree of an area, by the answers of the tests.
use Prim.Native.Nat.{ℕ, ◌<◌}
use mathlib.Core.Path.{◌≡◌, refl, sym, ap, ◌∙◌}
use mathlib.Core.Bool.{Bool, true, false}
use mathlib.Core.List.{List}
use native.Mathlib.Omega.{arith}
use Rattle.std.specs.Prelude.{Option, Some, None}
use Rattle.rules.specs.Bytes.{Text}
use Rattle.rules.specs.Tree.{Tree, variable, Trees, occurs}
use Rattle.rules.specs.Substitution.{Pair, flatten}
use Rattle.rules.specs.declared.Sort.{Sort}
use Rattle.rules.specs.Sorts.{sorted}
use Rattle.rules.specs.Solving.{bind_into, unknown, swap_at, swap_for, swap_key, sort_check, occurs_check, eliminate_at, eliminate}
use Rattle.tree.specs.declared.area.Area.{Area}
use Rattle.tree.specs.Areas.{name_in, tree_in, trees_in, sort_of, Grows}
use Rattle.tree.proofs.Keeping.{adds_grows, grows_tree, grows_trees}
use Rattle.tree.specs.Lists.{Lists}
use Rattle.substitution.specs.Areas.{PutsInto}
use Rattle.elimination.specs.Stack.{Whole}
use Rattle.elimination.specs.Areas.{pairs_in, WaitsIn, BindsIn}

-- the stack stays
pub waits_stay : {a b : Area} (k : ℕ) → Grows a b → k < a.free → Whole (trees_in a k) → WaitsIn a b k (pairs_in a k)
waits_stay k h q o = record { grows = h; inside = omega (arith, h.grew); trees = grows_trees h k q ∙ sym o }

-- a list that was written is of waiting pairs
pub waits_listed : {a b : Area} {st : ℕ} {ts : Trees} {ps : List Pair} → Lists a b st ts → ts ≡ flatten ps → WaitsIn a b st ps
waits_listed h e = record { grows = adds_grows h.adds; inside = h.inside; trees = h.trees ∙ e }

-- the binding is put into the waiting pairs
pub binds_put : {a b : Area} {st : ℕ} {ps : List Pair} (key value : ℕ) → 0 < key → key < a.free → 0 < value → value < a.free → tree_in a key ≡ variable (name_in a key) → PutsInto a b (name_in a key) (tree_in a value) ps st
    → BindsIn a b (bind_into (name_in a key) (tree_in a value) ps) key value st
binds_put {a} key value p q p₁ q₁ e d =
    let g = adds_grows d.lists.adds in
    record {
      name = name_in a key;
      tree = tree_in a value;
      pairs = _;
      is = d.step;
      waits = waits_listed d.lists refl;
      cells = ((p, omega (arith, g.grew)), (p₁, omega (arith, g.grew)));
      key_is = grows_tree g key q p ∙ e;
      value_is = grows_tree g value q₁ p₁;
      small = d.small;
      used = d.used;
    }

-- an elimination by the sort of the key, whose tree is k
module _ (x : Text) (v : Tree) (ps : List Pair) {k : Tree} (e : k ≡ variable x) where
  eliminated : {o : Option Sort} → o ≡ sort_of k → eliminate x v ps ≡ eliminate_at o x v ps
  unfolding eliminate
  eliminated f = ap (λ (o : Option Sort). eliminate_at o x v ps) (sym (f ∙ ap sort_of e))

  pub no_sort : {o : Option Sort} → o ≡ sort_of k → o ≡ None → eliminate x v ps ≡ unknown
  no_sort f g = eliminated (sym g ∙ f)

  module _ {o : Option Sort} (r : Sort) (f : o ≡ sort_of k) (g : o ≡ Some r) where
    pub checked : {c : Bool} → occurs x v ≡ c → eliminate x v ps ≡ occurs_check c r x v ps
    checked h = eliminated (sym g ∙ f) ∙ ap (λ (c : Bool). occurs_check c r x v ps) h

    pub sort_checked : {c : Bool} → occurs x v ≡ false → sorted r v ≡ c → eliminate x v ps ≡ sort_check c r x v ps
    sort_checked h i = checked h ∙ ap (λ (c : Bool). sort_check c r x v ps) i

-- the key x, whose tree is k, turned round
module _ (s : Sort) (x : Text) (ps : List Pair) {k : Tree} (e : k ≡ variable x) where
  pub swap_turned : {t : Tree} {r : Sort} (y : Text) → t ≡ variable y → sort_of t ≡ Some r → sorted r k ≡ true → swap_key s x t ps ≡ bind_into y k ps
  swap_turned {t} {r} y f g h =
      ap (λ (u : Tree). swap_key s x u ps) f
      ∙ ap (λ (o : Option Sort). swap_for o s x y ps) (sym (ap sort_of f) ∙ g)
      ∙ ap (λ (b : Bool). swap_at b s x y ps) (ap (sorted r) (sym e) ∙ h)
      ∙ ap (λ (u : Tree). bind_into y u ps) (sym e)
