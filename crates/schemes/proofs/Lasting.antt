-- What an area that grew still holds.
use Prim.Native.Nat.{ℕ, ◌+◌, ◌<◌}
use mathlib.Core.Path.{ap, ◌∙◌}
use native.Mathlib.Omega.{arith}
use Rattle.rules.specs.Bytes.{Text}
use Rattle.rules.specs.Tree.{Tree, Trees, size}
use Rattle.tree.specs.declared.area.Area.{Area}
use Rattle.tree.specs.Areas.{Grows}
use Rattle.tree.proofs.Keeping.{grows_tree, grows_trees}
use Rattle.schemes.specs.Areas.{Has, HasList, FreshIn, SomeFreshIn}
use Rattle.schemes.specs.Making.{LeafIn}

module _ {a b : Area} (g : Grows a b) where
  pub has_later : {k : ℕ} {t : Tree} → Has a k t → Has b k t
  has_later {k} h = record { some_cell = h.some_cell; inside = omega (arith, h.inside, g.grew); tree = grows_tree g k h.inside h.some_cell ∙ h.tree }

  pub list_later : {k : ℕ} {ts : Trees} → HasList a k ts → HasList b k ts
  list_later {k} h = record { inside = omega (arith, h.inside, g.grew); trees = grows_trees g k h.inside ∙ h.trees }

  -- the fresh variables stay
  pub fresh_later : {fresh : ℕ} {name : ℕ → Text} → FreshIn a fresh name → FreshIn b fresh name
  fresh_later {fresh} f = record {
    some_cell = f.some_cell;
    inside = omega (arith, f.inside, g.grew);
    trees = λ i h. grows_tree g (fresh + i) (omega (arith, f.inside)) (omega (arith, f.some_cell)) ∙ f.trees i h;
  }

  pub named_later : {fresh : ℕ} → SomeFreshIn a fresh → SomeFreshIn b fresh
  named_later f = record { name = f.name; cells = fresh_later f.cells }

-- a fresh variable is one node, and so are two
pub leaf_fresh : {a : Area} {fresh : ℕ} → SomeFreshIn a fresh → (k : ℕ) → k < 24 → LeafIn a (fresh + k)
unfolding size
leaf_fresh f k h = record { some_cell = omega (arith, f.cells.some_cell); inside = omega (arith, f.cells.inside); node = ap size (f.cells.trees k h) }

pub leaves_fresh : {a : Area} {fresh : ℕ} (n : ℕ) → SomeFreshIn a fresh × (n + 1 < 24) → LeafIn a (fresh + n) × LeafIn a (fresh + (n + 1))
leaves_fresh n f = (leaf_fresh f.0 n (omega (arith, f.1)), leaf_fresh f.0 (n + 1) f.1)
