-- Walks over the cells of a list of an area: what an iterator over them asks, the next cell and the end; tests of all trees of a list,
-- and of one.
use Prim.Native.Nat.{ℕ, zero, suc, ◌+◌, ◌*◌, ◌<◌, ◌≤◌}
use mathlib.Core.Path.{◌≡◌, refl, sym, ap, ◌∙◌}
use mathlib.Core.Bool.{Bool, true, false, ◌&&◌, ◌||◌, and-true, or-false}
use mathlib.Core.List.{List, [], ◌∷◌}
use native.Mathlib.Omega.{arith}
use Rattle.std.specs.Iterator.{YieldsFirst, CallableAtEachTurn}
use Rattle.std.proofs.lemmas.Iterator.{YieldsList}
use Rattle.std.proofs.lemmas.Iterator.Adapters.{serves_from_places}
use Rattle.std.proofs.lemmas.Iterator.Consumers.{YieldsList-from_first}
use Rattle.rules.specs.Tree.{Tree, Trees, none, more, size, sizes}
use Rattle.tree.specs.declared.area.Area.{Area}
use Rattle.tree.specs.declared.iter.Cells.{Cells}
use Rattle.tree.specs.declared.kinds.Kind.TheVariants.{Application}
use Rattle.tree.specs.Areas.{cell_kind, first_in, next_in, tree_in, trees_in}
use Rattle.tree.specs.Lists.{cells_from, cells_left}
use Rattle.tree.proofs.ByKind.{nodes_application}
use Rattle.tree.proofs.Decoding.{size_pos}
use Rattle.tree.proofs.Lists.{list_none, list_more, list_size}
use Rattle.tree.proofs.Chains.{cells_none, cells_more, cells_within}

pub cells_yielded : (a : Area) (k : ℕ) {s : Cells} → cells_left s ≡ cells_from a k → YieldsList (YieldsFirst cells_left) (λ (x : ℕ). x) s (cells_from a k)
cells_yielded a k e = YieldsList-from_first (λ (x : ℕ). x) cells_left (cells_from a k) e

module _ (a : Area) (k : ℕ) (q : k < a.free) {s : Cells} (e : cells_left s ≡ cells_from a k) where
  -- the test may be called at a cell of the list
  pub every_asked : {F : Type 0} {R : F → ℕ → F → Type 0} {Q : F → ℕ → Type 0} {f : F}
      → ((x : ℕ) (g : F) → R f x g → g ≡ f) → ((x : ℕ) → 0 < x → x ≤ k → Q f x) → CallableAtEachTurn (YieldsFirst cells_left) R Q s f
  every_asked {R = R} {Q = Q} stays h = serves_from_places (cells_yielded a k e) {R = R} {Q = Q} stays (λ x j l m. let w = cells_within a k q x j l m in h x w.0 w.1)

-- the end of a walk, and its next cell
pub walk_ends : (a : Area) (k : ℕ) → [] ≡ cells_from a k → k < a.free → k ≡ 0
walk_ends a zero e p = refl
walk_ends a (suc k) e p = let x = e ∙ cells_more a (suc k) (omega arith) p in cc

pub walk_goes : (a : Area) (k : ℕ) {i : ℕ} {rest : List ℕ} → i ∷ rest ≡ cells_from a k → k < a.free → (k ≡ i) × (0 < i) × (rest ≡ cells_from a (next_in a i))
walk_goes a zero e p = let x = e ∙ cells_none a zero refl in cc
walk_goes a (suc k) {i} {rest} e p =
    let x = e ∙ cells_more a (suc k) (omega arith) p in
    let y : suc k ≡ i = cc in
    let z : rest ≡ cells_from a (next_in a (suc k)) = cc in
    (y, omega arith, z ∙ ap (λ (j : ℕ). cells_from a (next_in a j)) y)

-- twice the size of a tree, and once more for a list, is what a test of trees and of lists counts down: at the first tree of a list, at
-- the rest of the list and at the children of an application
module _ (a : Area) (k : ℕ) where
  pub first_falls : {t : ℕ} → 2 * sizes (trees_in a k) + 1 ≡ t → 0 < k → k < a.free → 2 * size (tree_in a k) < t
  first_falls e p q = omega (arith, e, list_size a k p q refl)

  pub rest_falls : {t j : ℕ} → j ≡ next_in a k → 2 * sizes (trees_in a k) + 1 ≡ t → 0 < k → k < a.free → 2 * sizes (trees_in a j) + 1 < t
  rest_falls n e p q = omega (arith, e, list_size a k p q n, size_pos (tree_in a k))

  pub children_fall : {t j : ℕ} → j ≡ first_in a k → 2 * size (tree_in a k) ≡ t → cell_kind a k ≡ Application → 2 * sizes (trees_in a j) + 1 < t
  children_fall f e h = omega (arith, e, nodes_application a k h f)

-- a test of each tree of a list: at its end, at its last tree, and where its first tree passes or does not
module _ (one : Tree → Bool) (all : Trees → Bool) (end : all none ≡ true) (step : (t : Tree) (ts : Trees) → all (more t ts) ≡ (one t && all ts)) (a : Area) (k : ℕ) where
  pub each_ends : k ≡ 0 → true ≡ all (trees_in a k)
  each_ends e = sym (ap all (list_none a k e) ∙ end)

  module _ (p : 0 < k) (q : k < a.free) {j : ℕ} (n : j ≡ next_in a k) {b : Bool} (e : b ≡ one (tree_in a k)) where
    goes : b && all (trees_in a j) ≡ all (trees_in a k)
    goes = ap (λ (x : Bool). x && all (trees_in a j)) e ∙ sym (ap all (list_more a k p q n) ∙ step (tree_in a k) (trees_in a j))

    pub each_last : j ≡ 0 → b ≡ all (trees_in a k)
    each_last z = sym (and-true b) ∙ ap (λ (x : Bool). b && x) (sym (ap all (list_none a j z) ∙ end)) ∙ goes

    pub each_then : b ≡ true → {r : Bool} → r ≡ all (trees_in a j) → r ≡ all (trees_in a k)
    each_then t later = later ∙ ap (λ (x : Bool). x && all (trees_in a j)) (sym t) ∙ goes

    pub each_else : b ≡ false → b ≡ all (trees_in a k)
    each_else f = f ∙ ap (λ (x : Bool). x && all (trees_in a j)) (sym f) ∙ goes

-- the same of a test that one tree passes
module _ (one : Tree → Bool) (any : Trees → Bool) (end : any none ≡ false) (step : (t : Tree) (ts : Trees) → any (more t ts) ≡ (one t || any ts)) (a : Area) (k : ℕ) where
  pub some_ends : k ≡ 0 → false ≡ any (trees_in a k)
  some_ends e = sym (ap any (list_none a k e) ∙ end)

  module _ (p : 0 < k) (q : k < a.free) {j : ℕ} (n : j ≡ next_in a k) {b : Bool} (e : b ≡ one (tree_in a k)) where
    meets : b || any (trees_in a j) ≡ any (trees_in a k)
    meets = ap (λ (x : Bool). x || any (trees_in a j)) e ∙ sym (ap any (list_more a k p q n) ∙ step (tree_in a k) (trees_in a j))

    pub some_last : j ≡ 0 → b ≡ any (trees_in a k)
    some_last z = sym (or-false b) ∙ ap (λ (x : Bool). b || x) (sym (ap any (list_none a j z) ∙ end)) ∙ meets

    pub some_then : b ≡ true → b ≡ any (trees_in a k)
    some_then t = t ∙ ap (λ (x : Bool). x || any (trees_in a j)) (sym t) ∙ meets

    pub some_else : b ≡ false → {r : Bool} → r ≡ any (trees_in a j) → r ≡ any (trees_in a k)
    some_else f later = later ∙ ap (λ (x : Bool). x || any (trees_in a j)) (sym f) ∙ meets
