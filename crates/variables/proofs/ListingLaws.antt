-- The variables at places of an area, written as a list of its cells.
use Prim.Native.Nat.{ℕ, ◌+◌, ◌*◌, ◌-◌, ◌<◌, ◌≤◌}
use mathlib.Core.Path.{◌≡◌, refl, sym, ap, subst, ◌∙◌}
use mathlib.Core.List.{List, [], ◌∷◌, map}
use lib.ListN.{length, get_or}
use lib.Seq.{slice}
use native.Mathlib.Omega.{arith}
use Rattle.rules.specs.Bytes.{Text}
use Rattle.rules.specs.Tree.{variable}
use Rattle.text.specs.Places.{text_at}
use Rattle.text.proofs.Slices.{slice_none}
use Rattle.sheet.specs.Places.{place_of}
use Rattle.sheet.proofs.Words.{text_of_place}
use Rattle.tree.specs.declared.area.Area.{Area}
use Rattle.tree.specs.Areas.{Pushes}
use Rattle.tree.specs.Spelled.{Spelled}
use Rattle.tree.proofs.Decoding.{trees_none}
use Rattle.tree.proofs.Keeping.{adds_same}
use Rattle.substitution.specs.Areas.{Lists}
use Rattle.substitution.proofs.Listing.{lists_push}
use Rattle.variables.specs.Variables.{Variable, Variables}
use Rattle.variables.specs.Listing.{variable_list, backwards}
use Rattle.variables.specs.Areas.{Listable, ListsVariablesIn}
use Rattle.variables.specs.declared.gathering.Places.{Places}
use Rattle.variables.proofs.Dropping.{first_word}
use Rattle.variables.proofs.Listings.{second_byte, place_some}

-- the place of a variable spells its name
pub place_spelled : (s : Text) (x : ℕ) → Variable s x → length s ≤ 65536 → Spelled s (place_of x)
place_spelled s x v l =
    let k = place_some s x v in
    record {
      some = omega arith;
      inside = omega (arith, v.inside);
      start = omega (arith, v.inside);
      short = omega arith;
      plain = λ h. second_byte (text_at s x) v.token (ap (λ (t : Text). get_or t 1 0) (sym (text_of_place s x)) ∙ h);
    }

-- the variables at the places from p.from to i are the list from a cell on, the last first
pub record ListingIn (a b : Area) (p : Places) (i list : ℕ) : Type 0 where
  pub back : List Text
  pub lists : Lists a b list (variable_list back)
  pub are : backwards back (map (text_at a.sheet.now) (slice i p.to a.work.now)) ≡ map (text_at a.sheet.now) (slice p.from p.to a.work.now)
  pub used : b.free + p.from ≡ a.free + i
  pub low : p.from ≤ i
  pub high : i ≤ p.to
  pub places : Variables a.sheet.now (slice i p.to a.work.now)

pub lists_starts : (a : Area) (p : Places) → Listable a p → ListingIn a a p p.from 0
unfolding variable_list backwards
lists_starts a p h = record {
  back = [];
  lists = record { adds = adds_same a; inside = a.arena.links.some; trees = trees_none a.sheet.now a.work.now 0 refl };
  are = refl;
  used = refl;
  low = omega arith;
  high = h.grew;
  places = h.variables;
}

module _ {a b : Area} {p : Places} {i list : ℕ} (h : ListingIn a b p i list) where
  pub lists_ends : p.to ≤ i → ListsVariablesIn a b (p.to - p.from) (map (text_at a.sheet.now) (slice p.from p.to a.work.now)) list
  lists_ends l = record {
    back = h.back;
    lists = h.lists;
    are = ap (λ (l : List ℕ). backwards h.back (map (text_at a.sheet.now) l)) (sym (slice_none i p.to a.work.now l)) ∙ h.are;
    used = omega (arith, h.used, h.high, h.low);
  }

  module _ (l : i < p.to) (q : p.to ≤ length a.work.now) (r : 4 * (a.free + (p.to - p.from)) ≤ p.from) where
    pub lists_room : 4 * b.free + 4 ≤ p.from
    lists_room = omega (arith, h.used, h.low)

    lists_word : get_or b.work.now i 0 ≡ get_or a.work.now i 0
    lists_word = h.lists.adds.grown.above i (omega (arith, lists_room, h.low))

    lists_text : text_at b.sheet.now (get_or b.work.now i 0) ≡ text_at a.sheet.now (get_or a.work.now i 0)
    lists_text = ap (λ s. text_at s.now (get_or b.work.now i 0)) h.lists.adds.lent.sheet ∙ ap (text_at a.sheet.now) lists_word

    these : Variable a.sheet.now (get_or a.work.now i 0) × Variables a.sheet.now (slice (i + 1) p.to a.work.now)
    unfolding Variables
    these = subst (Variables a.sheet.now) (first_word a.sheet.now a.work.now i p.to l q) h.places

    pub lists_variable : Variable b.sheet.now (get_or b.work.now i 0)
    lists_variable = rw (h.lists.adds.lent.sheet, lists_word) these.0

    pub lists_turn : {d : Area} {k : ℕ} → Pushes b d k list (variable (text_at b.sheet.now (get_or b.work.now i 0))) → ListingIn a d p (i + 1) k
    unfolding variable_list backwards
    lists_turn {d} {k} g = record {
      back = text_at a.sheet.now (get_or a.work.now i 0) ∷ h.back;
      lists = lists_push h.lists (subst (λ (t : Text). Pushes b d k list (variable t)) lists_text g);
      are = sym (ap (λ (l : List ℕ). backwards h.back (map (text_at a.sheet.now) l)) (first_word a.sheet.now a.work.now i p.to l q)) ∙ h.are;
      used = omega (arith, h.used, g.end);
      low = omega (arith, h.low);
      high = omega arith;
      places = these.1;
    }
