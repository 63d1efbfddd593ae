-- Instances under a well-sorted substitution: they are tidy, what has a sort keeps it, and what may get a sort is refinable
-- to it.
use mathlib.Core.Path.{◌≡◌, refl, ap, sym, subst, ◌∙◌}
use mathlib.Core.Bool.{Bool, true, false, ◌&&◌, ◌||◌}
use Prim.Native.Nat.{ℕ, suc}
use native.Mathlib.Omega.{arith}
use Rattle.rules.specs.Bytes.{Text}
use Rattle.rules.specs.Tree.{Tree, variable, atom, apply, Trees, none, more, count}
use Rattle.rules.specs.Substitution.{Substitution, substitute, substitutes}
use Rattle.rules.specs.declared.Sort.{Sort}
use Rattle.rules.specs.declared.Sort.TheVariants.{Pub, Fresh, Msg, TamNat, Node}
use Rattle.rules.specs.Sorts.{same_sort, Symbol, addition, unit, frame, free, symbol, natural, naturals, message, messages, sorted, may_meet, refinable, refinables, refinable_at}
use Rattle.rules.specs.Tidy.{Arity, Tidy, Tidies}
use Rattle.rules.specs.Meaning.{WellSorted}
use Rattle.laws.proofs.Basics.Tests.{and_left, and_right, and_both}
use Rattle.laws.proofs.Sorts.Sorting.{sorted_variable, sorted_at, sorted_apply, sorts_meet, unit_childless, raise}

sorted_mono : (s : Sort) (h : Symbol) (a b c d : Bool) → (a ≡ true → c ≡ true) → (b ≡ true → d ≡ true) → sorted_at s h a b ≡ true → sorted_at s h c d ≡ true
sorted_mono Pub h a b c d p q e = e
sorted_mono Fresh h a b c d p q e = e
sorted_mono Msg addition a b c d p q e = p e
sorted_mono Msg unit a b c d p q e = q e
sorted_mono Msg frame a b c d p q e = e
sorted_mono Msg free a b c d p q e = q e
sorted_mono TamNat addition a b c d p q e = p e
sorted_mono TamNat unit a b c d p q e = e
sorted_mono TamNat frame a b c d p q e = e
sorted_mono TamNat free a b c d p q e = e
sorted_mono Node h a b c d p q e = e

sum_refinable : (s : Sort) (a b r : Bool) → (a ≡ true → r ≡ true) → sorted_at s addition a b ≡ true → ((same_sort s TamNat || same_sort s Msg) && r) ≡ true
sum_refinable Pub a b r p e = e
sum_refinable Fresh a b r p e = e
sum_refinable Msg a b r p e = p e
sum_refinable TamNat a b r p e = p e
sum_refinable Node a b r p e = e

frame_unsorted : (s : Sort) (a b : Bool) → sorted_at s frame a b ≡ false
frame_unsorted Pub a b = refl
frame_unsorted Fresh a b = refl
frame_unsorted Msg a b = refl
frame_unsorted TamNat a b = refl
frame_unsorted Node a b = refl

free_refinable : (s : Sort) (a b r : Bool) → (b ≡ true → r ≡ true) → sorted_at s free a b ≡ true → (same_sort s Msg && r) ≡ true
free_refinable Pub a b r p e = e
free_refinable Fresh a b r p e = e
free_refinable Msg a b r p e = p e
free_refinable TamNat a b r p e = e
free_refinable Node a b r p e = e

sorted_as : (s : Sort) (f : Text) (ts : Trees) (h : Symbol) → symbol f ≡ h → sorted s (apply f ts) ≡ true → sorted_at s h (naturals ts) (messages ts) ≡ true
sorted_as s f ts h p e = subst (λ (z : Symbol). sorted_at s z (naturals ts) (messages ts) ≡ true) p (sym (sorted_apply s f ts) ∙ e)

not_none : (t : Tree) (ts : Trees) → more t ts ≡ none → ⊥
not_none t ts e = let z = ap count e in omega arith

module _ (arity : Text → ℕ) (counts : Arity arity) (σ : Substitution) (good : WellSorted arity σ) where
  mutual
    unfolding substitute

    pub substitute_tidy : (t : Tree) → Tidy arity t → Tidy arity (substitute σ t)
    substitute_tidy (variable x) d = (good x d.0 d.1 d.2).1
    substitute_tidy (atom c n) d = d
    substitute_tidy (apply f ts) d = (substitutes_count ts ∙ d.0, d.1, substitutes_tidy ts d.2)

    substitutes_tidy : (ts : Trees) → Tidies arity ts → Tidies arity (substitutes σ ts)
    substitutes_tidy none d = tt
    substitutes_tidy (more t ts) d = (substitute_tidy t d.0, substitutes_tidy ts d.1)

    substitutes_count : (ts : Trees) → count (substitutes σ ts) ≡ count ts
    substitutes_count none = refl
    substitutes_count (more t ts) = ap suc (substitutes_count ts)

  substitute_variable : (s : Sort) (x : Text) → Tidy arity (variable x) → sorted s (variable x) ≡ true → sorted s (σ x) ≡ true
  substitute_variable s x d e =
      let g = good x d.0 d.1 d.2 in raise arity counts d.0 s (sym (sorted_variable s d.0 x d.1) ∙ e) (σ x) g.1 g.0

  mutual
    unfolding substitute sorted natural message

    pub substitute_sorted : (s : Sort) (t : Tree) → Tidy arity t → sorted s t ≡ true → sorted s (substitute σ t) ≡ true
    substitute_sorted s (variable x) d e = substitute_variable s x d e
    substitute_sorted s (atom c n) d e = e
    substitute_sorted s (apply f ts) d e =
        sorted_apply s f (substitutes σ ts)
        ∙ sorted_mono s (symbol f) (naturals ts) (messages ts) (naturals (substitutes σ ts)) (messages (substitutes σ ts))
        (λ z. substitutes_natural ts d.2 z) (λ z. substitutes_message ts d.2 z) (sym (sorted_apply s f ts) ∙ e)

    substitutes_natural : (ts : Trees) → Tidies arity ts → naturals ts ≡ true → naturals (substitutes σ ts) ≡ true
    substitutes_natural none d e = refl
    substitutes_natural (more t ts) d e =
        and_both (natural (substitute σ t)) (naturals (substitutes σ ts))
        (substitute_sorted TamNat t d.0 (and_left (natural t) (naturals ts) e)) (substitutes_natural ts d.1 (and_right (natural t) (naturals ts) e))

    substitutes_message : (ts : Trees) → Tidies arity ts → messages ts ≡ true → messages (substitutes σ ts) ≡ true
    substitutes_message none d e = refl
    substitutes_message (more t ts) d e =
        and_both (message (substitute σ t)) (messages (substitutes σ ts))
        (substitute_sorted Msg t d.0 (and_left (message t) (messages ts) e)) (substitutes_message ts d.1 (and_right (message t) (messages ts) e))

  -- an application with an instance of the sort is refinable to it, if its arguments are
  refinable_apply : (s : Sort) (f : Text) (ts : Trees) → Tidy arity (apply f ts)
      → (naturals (substitutes σ ts) ≡ true → refinables TamNat ts ≡ true) → (messages (substitutes σ ts) ≡ true → refinables Msg ts ≡ true)
      → sorted s (apply f (substitutes σ ts)) ≡ true → refinable s (apply f ts) ≡ true
  unfolding refinable substitute
  refinable_apply s f ts d n m e = go (symbol f) refl ts d n m e
    where
      go : (h : Symbol) → symbol f ≡ h → (us : Trees) → Tidy arity (apply f us)
          → (naturals (substitutes σ us) ≡ true → refinables TamNat us ≡ true) → (messages (substitutes σ us) ≡ true → refinables Msg us ≡ true)
          → sorted s (apply f (substitutes σ us)) ≡ true → refinable_at s h us (sorted s (apply f us)) (refinables TamNat us) (refinables Msg us) ≡ true
      go addition p us d' n' m' e' =
          sum_refinable s (naturals (substitutes σ us)) (messages (substitutes σ us)) (refinables TamNat us) n' (sorted_as s f (substitutes σ us) addition p e')
      go frame p us d' n' m' e' =
          sym (frame_unsorted s (naturals (substitutes σ us)) (messages (substitutes σ us))) ∙ sorted_as s f (substitutes σ us) frame p e'
      go unit p none d' n' m' e' = e'
      go unit p (more u us) d' n' m' e' = absurd (not_none u us (unit_childless arity counts f (more u us) p d'))
      go free p none d' n' m' e' = e'
      go free p (more u us) d' n' m' e' =
          free_refinable s (naturals (substitutes σ (more u us))) (messages (substitutes σ (more u us))) (refinables Msg (more u us)) m' (sorted_as s f (substitutes σ (more u us)) free p e')

  mutual
    unfolding substitute sorted natural message refinable

    pub sorted_refinable : (s : Sort) (t : Tree) → Tidy arity t → sorted s (substitute σ t) ≡ true → refinable s t ≡ true
    sorted_refinable s (variable x) d e = let g = good x d.0 d.1 d.2 in ap (may_meet s) d.1 ∙ sorts_meet d.0 s (σ x) g.0 e
    sorted_refinable s (atom c n) d e = rw e
    sorted_refinable s (apply f ts) d e = refinable_apply s f ts d (λ z. naturals_refinable ts d.2 z) (λ z. messages_refinable ts d.2 z) e

    naturals_refinable : (ts : Trees) → Tidies arity ts → naturals (substitutes σ ts) ≡ true → refinables TamNat ts ≡ true
    naturals_refinable none d e = refl
    naturals_refinable (more t ts) d e =
        and_both (refinable TamNat t) (refinables TamNat ts)
        (sorted_refinable TamNat t d.0 (and_left (natural (substitute σ t)) (naturals (substitutes σ ts)) e))
        (naturals_refinable ts d.1 (and_right (natural (substitute σ t)) (naturals (substitutes σ ts)) e))

    messages_refinable : (ts : Trees) → Tidies arity ts → messages (substitutes σ ts) ≡ true → refinables Msg ts ≡ true
    messages_refinable none d e = refl
    messages_refinable (more t ts) d e =
        and_both (refinable Msg t) (refinables Msg ts)
        (sorted_refinable Msg t d.0 (and_left (message (substitute σ t)) (messages (substitutes σ ts)) e))
        (messages_refinable ts d.1 (and_right (message (substitute σ t)) (messages (substitutes σ ts)) e))
