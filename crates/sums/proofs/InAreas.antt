-- Sums in an area: the cell of one, and the area that grew by one.
use Prim.Native.Nat.{ℕ}
use mathlib.Core.Path.{◌≡◌, sym, ap, ◌∙◌}
use mathlib.Core.Bool.{true}
use mathlib.Core.List.{List}
use Rattle.std.specs.Prelude.{Option}
use Rattle.laws.proofs.Basics.Tests.{same_eq}
use Rattle.rules.specs.Tree.{Tree, tamtplus}
use Rattle.tree.specs.declared.area.Area.{Area}
use Rattle.tree.specs.declared.kinds.Kind.TheVariants.{Application}
use Rattle.tree.specs.Cells.{kind_of}
use Rattle.tree.specs.Areas.{cell_kind, name_in, tree_in, Grows}
use Rattle.tree.proofs.Keeping.{adds_grows}
use Rattle.tree.proofs.ByKind.{application_kind}
use Rattle.tree.proofs.Decoding.{Kind, application, a_variable, an_atom, kind, tree_variable, tree_atom, tree_apply}
use Rattle.tree.specs.Areas.{sum_in}
use Rattle.sums.specs.Areas.{Summed}

module _ (a : Area) (i : ℕ) where
  pub sum_cell : sum_in (tree_in a i) ≡ true → (kind_of a.work.now i ≡ 0) × (name_in a i ≡ tamtplus)
  sum_cell e = go (kind (kind_of a.work.now i))
    where
      go : Kind (kind_of a.work.now i) → (kind_of a.work.now i ≡ 0) × (name_in a i ≡ tamtplus)
      go (application k) = (k, same_eq (name_in a i) tamtplus (sym (ap sum_in (tree_apply a.sheet.now a.work.now i k)) ∙ e))
      go (a_variable p q) = let f = sym (ap sum_in (tree_variable a.sheet.now a.work.now i p q)) ∙ e in absurd cc
      go (an_atom p) = let f = sym (ap sum_in (tree_atom a.sheet.now a.work.now i p)) ∙ e in absurd cc

  pub sum_kind : sum_in (tree_in a i) ≡ true → cell_kind a i ≡ Application
  sum_kind e = application_kind (kind_of a.work.now i) (sum_cell e).0

-- the area that grew by a sum
pub summed_grows : {a b : Area} {ts : List Tree} {o : Option ℕ} → Summed a b ts o → Grows a b
summed_grows h = adds_grows h.adds
