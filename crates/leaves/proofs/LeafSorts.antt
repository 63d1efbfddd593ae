-- Leaves by their sorts: what stands after the first colon.
use Prim.Native.Nat.{ℕ, suc, ◌+◌, ◌-◌, ◌<◌}
use mathlib.Core.Path.{◌≡◌, refl, sym, ap, ◌∙◌}
use mathlib.Core.List.{[], ◌∷◌}
use mathlib.Core.Bool.{Bool, true, false, cond}
use lib.Dec.{eqb}
use lib.ListN.{length, take, drop, length-drop}
use lib.Seq.{take_all}
use native.Mathlib.Omega.{arith}
use native.Mathlib.Numerals.{add-one}
use borrow.Author.Tests.{eq-eqb, ne_eqb}
use Rattle.std.specs.Prelude.{Option, Some, None, option_map}
use Rattle.rules.specs.Bytes.{Text}
use Rattle.rules.specs.Text.{count_of}
use Rattle.rules.specs.declared.Sort.{Sort}
use Rattle.rules.specs.Tree.{variable, apply, none}
use Rattle.rules.specs.Sorts.{sort_named, variable_sort}
use Rattle.rules.specs.Reading.{leaf}
use Rattle.text.proofs.Library.{position_more}
use Rattle.leaves.specs.Leaves.{colon_in, leaf_sort}

pub leaf_colon : (n : Text) → leaf_sort n ≡ option_map (λ i. sort_named (drop (suc i) n)) (colon_in n)
unfolding leaf_sort
leaf_colon [] = refl
leaf_colon (a ∷ n) = go (eqb a 58) (colon_in n) (leaf_colon n) ∙ ap (option_map (λ i. sort_named (drop (suc i) (a ∷ n)))) (sym (position_more (λ (b : ℕ). eqb b 58) a n))
  where
    go : (t : Bool) (o : Option ℕ) → leaf_sort n ≡ option_map (λ i. sort_named (drop (suc i) n)) o
        → cond t (Some (sort_named n)) (leaf_sort n) ≡ option_map (λ i. sort_named (drop (suc i) (a ∷ n))) (cond t (Some 0) (option_map suc o))
    go true o e = refl
    go false None e = e
    go false (Some k) e = e

pub no_leaf_sort : (n : Text) → None ≡ colon_in n → None ≡ leaf_sort n
no_leaf_sort n e = ap (option_map (λ i. sort_named (drop (suc i) n))) e ∙ sym (leaf_colon n)

pub leaf_found : (n : Text) (i : ℕ) {r : Option Sort} → Some i ≡ colon_in n → r ≡ sort_named (take (length n - (i + 1)) (drop (i + 1) n)) → Some r ≡ leaf_sort n
leaf_found n i e f =
    ap Some (f ∙ ap sort_named (take_all (length n - (i + 1)) (drop (i + 1) n) (omega (arith, length-drop (i + 1) n))))
    ∙ sym (leaf_colon n ∙ ap (option_map (λ i. sort_named (drop (suc i) n))) (sym e) ∙ ap (λ j. Some (sort_named (drop j n))) (sym (add-one i)))

-- the two kinds of leaves
no_colon : (n : Text) → leaf_sort n ≡ None → count_of 58 n ≡ 0
unfolding leaf_sort count_of
no_colon [] e = refl
no_colon (b ∷ n) e = go (eqb b 58) (no_colon n) e
  where
    go : (t : Bool) → (leaf_sort n ≡ None → count_of 58 n ≡ 0) → cond t (Some (sort_named n)) (leaf_sort n) ≡ None → cond t 1 0 + count_of 58 n ≡ 0
    go true h e = absurd cc
    go false h e = omega (arith, h e)

some_colon : (n : Text) (s : Option Sort) → leaf_sort n ≡ Some s → (0 < count_of 58 n) × (s ≡ variable_sort n)
unfolding leaf_sort count_of variable_sort
some_colon [] s e = absurd cc
some_colon (b ∷ n) s e = go (eqb b 58) (some_colon n s) e
  where
    go : (t : Bool) → (leaf_sort n ≡ Some s → (0 < count_of 58 n) × (s ≡ variable_sort n)) → cond t (Some (sort_named n)) (leaf_sort n) ≡ Some s → (0 < cond t 1 0 + count_of 58 n) × (s ≡ cond t (sort_named n) (variable_sort n))
    go true h e = (omega arith, cc)
    go false h e = (omega (arith, (h e).0), (h e).1)

pub constant_leaf : (n : Text) → leaf_sort n ≡ None → leaf n ≡ apply n none
unfolding leaf
constant_leaf n e = rw (eq-eqb (count_of 58 n) 0 (no_colon n e)) refl

pub variable_leaf : (n : Text) (s : Option Sort) → leaf_sort n ≡ Some s → (leaf n ≡ variable n) × (s ≡ variable_sort n)
unfolding leaf
variable_leaf n s e = let h = some_colon n s e in (rw (ne_eqb (count_of 58 n) 0 (omega (arith, h.0))) refl, h.1)

-- the sort of a variable
pub constant_sort : (n : Text) → None ≡ leaf_sort n → None ≡ variable_sort n
unfolding leaf_sort variable_sort
constant_sort [] e = refl
constant_sort (b ∷ n) e = go (eqb b 58) (constant_sort n) e
  where
    go : (t : Bool) → (None ≡ leaf_sort n → None ≡ variable_sort n) → None ≡ cond t (Some (sort_named n)) (leaf_sort n) → None ≡ cond t (sort_named n) (variable_sort n)
    go true h e = absurd cc
    go false h e = h e

pub colon_sort : (n : Text) (s : Option Sort) → Some s ≡ leaf_sort n → s ≡ variable_sort n
colon_sort n s e = (some_colon n s (sym e)).1
