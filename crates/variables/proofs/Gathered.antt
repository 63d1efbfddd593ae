-- The variables of the trees of a list of an area, gathered as places and written as a list of cells.
use Prim.Native.Nat.{ℕ, ◌+◌, ◌*◌, ◌-◌, ◌<◌, ◌≤◌, ◌^◌}
use mathlib.Core.Path.{◌≡◌, sym, ap, subst, ◌∙◌}
use mathlib.Core.List.{List, [], map}
use lib.ListN.{length}
use lib.Seq.{slice, length-slice}
use native.Mathlib.Omega.{arith}
use Rattle.rules.specs.Bytes.{Text}
use Rattle.rules.specs.Tree.{sizes, variable_names_in}
use Rattle.text.specs.Places.{text_at}
use Rattle.tree.specs.declared.area.Area.{Area}
use Rattle.tree.specs.Areas.{trees_in, Grows}
use Rattle.tree.proofs.Keeping.{grows_keeps, grows_then, adds_grows}
use Rattle.variables.specs.Ordered.{ordered_once}
use Rattle.variables.specs.Variables.{Variables}
use Rattle.variables.specs.Listing.{backwards}
use Rattle.variables.specs.Pairing.{names_of, OfVariables}
use Rattle.variables.specs.Areas.{names_in, GathersIn, Listable, ListsVariablesIn}
use Rattle.variables.specs.declared.gathering.Places.{Places}
use Rattle.variables.proofs.Listed.{names_list, variables_list, length_map}

-- the places p of the variables of the list
module _ {a d : Area} {list : ℕ} {p : Places} (o : GathersIn a d list p) where
  pub gathered_texts : map (text_at d.sheet.now) (slice p.from p.to d.work.now) ≡ ordered_once (variable_names_in (trees_in a list))
  gathered_texts = ap (λ s. map (text_at s.now) (slice p.from p.to d.work.now)) o.keeps.lent.sheet ∙ o.ordered.are

  module _ (few : sizes (trees_in a list) ≤ length a.sheet.now) (room : 4 * (a.free + length a.sheet.now) + 2 * length a.sheet.now ≤ length a.work.now) where
    pub gathered_within : (p.from ≤ p.to) × (p.to ≤ length d.work.now)
    gathered_within = (o.ordered.grew, omega (arith, o.ordered.most_is, o.start, o.keeps.below.len))

    pub gathered_listable : Listable d p
    gathered_listable = record {
      grew = gathered_within.0;
      inside = gathered_within.1;
      variables = subst (λ s. Variables s.now (slice p.from p.to d.work.now)) (sym o.keeps.lent.sheet) o.ordered.places;
    }

    pub gathered_room : a.free + length a.sheet.now < 2 ^ 32 → (4 * (d.free + (p.to - p.from)) ≤ p.from) × (d.free + (p.to - p.from) < 2 ^ 32)
    gathered_room r = (omega (arith, o.ordered.most_is, o.start, o.keeps.end), omega (arith, o.ordered.most_is, o.keeps.end))

    -- and the list of them from cell i on
    module _ {b : Area} {i : ℕ} (h : ListsVariablesIn d b (p.to - p.from) (map (text_at d.sheet.now) (slice p.from p.to d.work.now)) i) where
      pub gathered_grows : Grows a b
      gathered_grows = grows_then (grows_keeps o.keeps) (adds_grows h.lists.adds)

      pub gathered_variables : OfVariables (trees_in b i)
      gathered_variables = subst OfVariables (sym h.lists.trees) (variables_list h.back)

      pub gathered_names : names_in b i ≡ ordered_once (variable_names_in (trees_in a list))
      gathered_names = ap (λ (xs : List Text). backwards xs []) (ap names_of h.lists.trees ∙ names_list h.back) ∙ h.are ∙ gathered_texts

      pub gathered_used : b.free ≡ a.free + length (names_in b i)
      gathered_used =
          let m = length_map (text_at d.sheet.now) (slice p.from p.to d.work.now) in
          let n = length-slice p.from p.to d.work.now gathered_within.1 in
          let l = ap (λ (xs : List Text). length xs) (gathered_names ∙ sym gathered_texts) in
          omega (arith, h.used, o.keeps.end)
