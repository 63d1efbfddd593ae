-- The fresh variables as cells of an area.
use Prim.Native.Nat.{ℕ, ◌+◌, ◌<◌, ◌≤◌, ◌^◌}
use mathlib.Core.Path.{◌≡◌, refl, sym, ap, subst, ◌∙◌}
use mathlib.Core.Bool.{false}
use mathlib.Core.Logic.{◌⊎◌, inl, inr}
use lib.ListN.{length, get_or}
use native.Mathlib.Omega.{arith}
use native.Mathlib.Decide.{dec_lt}
use Rattle.std.specs.Prelude.{Some}
use Rattle.rules.specs.Bytes.{Text}
use Rattle.rules.specs.declared.Sort.TheVariants.{Msg}
use Rattle.rules.specs.Sorts.{variable_sort}
use Rattle.rules.specs.Tree.{variable}
use Rattle.rules.specs.Variants.{fresh_name}
use Rattle.laws.specs.Unspelled.{unspelled}
use Rattle.laws.proofs.Renaming.Exchange.{fresh_sort}
use Rattle.laws.proofs.Variants.Targets.{fresh_tokens}
use Rattle.sheet.specs.declared.Place.{Place}
use Rattle.tree.specs.declared.area.Area.{Area}
use Rattle.tree.specs.Areas.{tree_in, Adds, Pushes}
use Rattle.tree.specs.Spelled.{text_in, Spelled}
use Rattle.tree.proofs.Keeping.{adds_same, adds_then, adds_push, grows_push, grows_tree, pushed_tree}
use Rattle.variables.proofs.Listings.{second_byte}
use Rattle.fresh.specs.Searching.{spells, SpelledAt}
use Rattle.fresh.specs.Fresh.{chosen_in}
use Rattle.fresh.specs.Areas.{WritesFreshIn}
use Rattle.fresh.proofs.FreshCells.{width_within, fresh_length, unchosen, as_chosen}

-- ---- one fresh variable

module _ (a : Area) (base n : ℕ) where
  pub chosen_unspelled : {b : Area} {k : ℕ} → spells a.sheet.now (fresh_name (base + n)) ≡ false → Pushes a b k 0 (variable (unspelled n)) → Pushes a b k 0 (variable (chosen_in a.sheet.now base n))
  chosen_unspelled {b} {k} e h = subst (λ (y : Text). Pushes a b k 0 (variable y)) (sym (unchosen a.sheet.now base n e)) h

  -- a name that the sheet spells
  module _ {p : Place} (x : SpelledAt a.sheet.now (fresh_name (base + n)) p) where
    pub chosen_sort : Some Msg ≡ variable_sort (text_in a p)
    chosen_sort = sym (ap variable_sort x.part ∙ fresh_sort (base + n))

    pub chosen_place : length a.sheet.now ≤ 65536 → base + n < 2 ^ 64 → Spelled a.sheet.now p
    chosen_place l m =
        let k = fresh_length (base + n) in
        let w = width_within (base + n) m in
        record {
          some = omega (arith, x.end);
          inside = x.inside;
          start = omega (arith, x.end, x.inside);
          short = omega (arith, x.end);
          plain = λ h. second_byte (fresh_name (base + n)) (fresh_tokens base n) (ap (λ (t : Text). get_or t 1 0) (sym x.part) ∙ h);
        }

    pub chosen_spelled : {b : Area} {k : ℕ} → Pushes a b k 0 (variable (text_in a p)) → Pushes a b k 0 (variable (chosen_in a.sheet.now base n))
    chosen_spelled {b} {k} h = subst (λ (y : Text). Pushes a b k 0 (variable y)) (x.part ∙ sym (as_chosen a.sheet.now base n x.spelled)) h

-- ---- the loop over them

-- the first k of them are written
pub record WritingIn (a b : Area) (base k : ℕ) : Type 0 where
  pub adds : Adds a b
  pub end : b.free ≡ a.free + k
  pub trees : (i : ℕ) → i < k → tree_in b (a.free + i) ≡ variable (chosen_in a.sheet.now base i)

pub chosen_starts : (a : Area) (base : ℕ) → WritingIn a a base 0
chosen_starts a base = record { adds = adds_same a; end = omega arith; trees = λ i p. absurd (omega arith) }

module _ {a b : Area} {base k : ℕ} (h : WritingIn a b base k) where
  pub chosen_turn : {d : Area} {j : ℕ} → Pushes b d j 0 (variable (chosen_in b.sheet.now base k)) → WritingIn a d base (k + 1)
  chosen_turn {d} {j} g = record {
    adds = adds_then h.adds (adds_push g);
    end = omega (arith, h.end, g.end);
    trees = λ i q. at i (before_or_at i q);
  }
    where
      before_or_at : (i : ℕ) → i < k + 1 → (i < k) ⊎ (i ≡ k)
      before_or_at i q = elim (dec_lt i k) [ yes l ↦ inl l | no l ↦ inr (omega arith) ]

      at : (i : ℕ) → (i < k) ⊎ (i ≡ k) → tree_in d (a.free + i) ≡ variable (chosen_in a.sheet.now base i)
      at i (inl q) = grows_tree (grows_push g) (a.free + i) (omega (arith, h.end)) (omega (arith, a.arena.links.some)) ∙ h.trees i q
      at i (inr q) =
          let z : a.free + i ≡ j = omega (arith, h.end, g.cell) in
          ap (tree_in d) z ∙ pushed_tree g ∙ ap (λ s. variable (chosen_in s.now base k)) h.adds.lent.sheet ∙ ap (λ (j : ℕ). variable (chosen_in a.sheet.now base j)) (sym q)

  pub chosen_ends : 24 ≤ k → k ≤ 24 → WritesFreshIn a b base a.free
  chosen_ends p q = record { adds = h.adds; first = refl; end = omega (arith, h.end); trees = λ i l. h.trees i (omega arith) }
