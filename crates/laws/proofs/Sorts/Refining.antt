-- What is refinable to a sort has an instance of the sort: each Msg variable replaced by one atom, of that sort where Msg holds it.
use mathlib.Core.Path.{◌≡◌, refl, ap, sym, subst, ◌∙◌}
use mathlib.Core.Bool.{Bool, true, false, cond, not, ◌||◌, false≢true}
use mathlib.Core.List.{[], ◌∷◌}
use Rattle.std.specs.Prelude.{Option, Some, None}
use Prim.Native.Nat.{ℕ}
use Rattle.rules.specs.Bytes.{Text}
use Rattle.rules.specs.Names.{letter, number}
use Rattle.rules.specs.Tree.{Tree, variable, atom, apply, Trees, none, more}
use Rattle.rules.specs.Substitution.{Substitution, substitute, substitutes}
use Rattle.rules.specs.declared.Sort.{Sort}
use Rattle.rules.specs.declared.Sort.TheVariants.{Pub, Fresh, Msg, TamNat, Node}
use Rattle.rules.specs.Sorts.{same_sort, intersects, variable_sort, Symbol, addition, unit, frame, free, symbol, natural_at, natural, naturals, message_at, message, messages, basic, sorted, may_meet, refinable_at, refinable, refinables}
use Rattle.rules.specs.Tidy.{Tidy}
use Rattle.rules.specs.Meaning.{WellSorted}
use Rattle.laws.proofs.Basics.Tests.{and_left, and_right, and_both}
use Rattle.laws.proofs.Sorts.Sorting.{all_sorts, at_sort, below, below_self, implies, same_sort_eq, sorted_variable}

-- p(0), f(0) or t(0)

abbrev letter_to : Sort → ℕ
letter_to Pub = 112
letter_to Fresh = 102
letter_to Msg = 116
letter_to TamNat = 116
letter_to Node = 116

abbrev filled : ℕ → Text → Option Sort → Tree
filled c x None = variable x
filled c x (Some r) = cond (same_sort r Msg) (atom c (48 ∷ [])) (variable x)

abbrev fill : ℕ → Substitution
fill c x = filled c x (variable_sort x)

atom_sorted : (s : Sort) → intersects Msg s ≡ true → sorted s (atom (letter_to s) (48 ∷ [])) ≡ true
unfolding sorted natural message basic
atom_sorted s = implies (intersects Msg s) (sorted s (atom (letter_to s) (48 ∷ [])))
    (at_sort (λ r. not (intersects Msg r) || sorted r (atom (letter_to r) (48 ∷ []))) refl s)

-- a sort other than Msg meets only those above it
meets_above : (r s : Sort) → same_sort r Msg ≡ false → intersects r s ≡ true → below r s ≡ true
meets_above r s e = implies (intersects r s) (below r s) (implies (not (same_sort r Msg)) (not (intersects r s) || below r s)
    (at_sort (λ y. not (not (same_sort r Msg)) || (not (intersects r y) || below r y))
    (at_sort (λ x. all_sorts (λ y. not (not (same_sort x Msg)) || (not (intersects x y) || below x y))) refl r) s) (ap not e))

fill_sorted : (s r : Sort) (x : Text) → variable_sort x ≡ Some r → intersects r s ≡ true → sorted s (fill (letter_to s) x) ≡ true
fill_sorted s r x e h = ap (λ (o : Option Sort). sorted s (filled (letter_to s) x o)) e ∙ go (same_sort r Msg) refl
  where
    go : (b : Bool) → same_sort r Msg ≡ b → sorted s (cond b (atom (letter_to s) (48 ∷ [])) (variable x)) ≡ true
    go true p = atom_sorted s (subst (λ (z : Sort). intersects z s ≡ true) (same_sort_eq r Msg p) h)
    go false p = sorted_variable s r x e ∙ meets_above r s p h

fill_variable : (s : Sort) (x : Text) → may_meet s (variable_sort x) ≡ true → sorted s (fill (letter_to s) x) ≡ true
fill_variable s x = go (variable_sort x) refl
  where
    go : (o : Option Sort) → variable_sort x ≡ o → may_meet s o ≡ true → sorted s (fill (letter_to s) x) ≡ true
    go None e h = absurd (false≢true h)
    go (Some r) e h = fill_sorted s r x e h

atom_message : (s : Sort) → message (atom (letter_to s) (48 ∷ [])) ≡ true
unfolding message
atom_message s = at_sort (λ r. message (atom (letter_to r) (48 ∷ []))) refl s

atom_letter : (s : Sort) → letter (letter_to s) ≡ true
unfolding letter
atom_letter s = at_sort (λ r. letter (letter_to r)) refl s

fill_well : (arity : Text → ℕ) (s : Sort) → WellSorted arity (fill (letter_to s))
unfolding sorted number
fill_well arity s x r e v = subst (λ (o : Option Sort). (sorted r (filled (letter_to s) x o) ≡ true) × Tidy arity (filled (letter_to s) x o)) (sym e) (go (same_sort r Msg) refl)
  where
    go : (b : Bool) → same_sort r Msg ≡ b
        → (sorted r (cond b (atom (letter_to s) (48 ∷ [])) (variable x)) ≡ true) × Tidy arity (cond b (atom (letter_to s) (48 ∷ [])) (variable x))
    go true p = (subst (λ (z : Sort). sorted z (atom (letter_to s) (48 ∷ [])) ≡ true) (sym (same_sort_eq r Msg p)) (atom_message s), (atom_letter s, refl))
    go false p = (sorted_variable r r x e ∙ below_self r, (r, e, v))

-- applications

natural_filled : (h : Symbol) (ts : Trees) (a b c n : Bool) → (b ≡ true → n ≡ true) → refinable_at TamNat h ts (natural_at h a) b c ≡ true
    → natural_at h n ≡ true
natural_filled addition ts a b c n p e = p e
natural_filled unit ts a b c n p e = refl
natural_filled frame ts a b c n p e = e
natural_filled free none a b c n p e = e
natural_filled free (more t ts) a b c n p e = e

message_filled : (h : Symbol) (ts : Trees) (l n m : Bool) → (refinables TamNat ts ≡ true → n ≡ true) → (refinables Msg ts ≡ true → m ≡ true)
    → refinable_at Msg h ts l (refinables TamNat ts) (refinables Msg ts) ≡ true → message_at h n m ≡ true
unfolding refinables
message_filled addition ts l n m p q e = p e
message_filled unit none l n m p q e = q refl
message_filled unit (more t ts) l n m p q e = q e
message_filled frame ts l n m p q e = e
message_filled free none l n m p q e = q refl
message_filled free (more t ts) l n m p q e = q e

unrefined : (s : Sort) → same_sort s TamNat ≡ false → same_sort s Msg ≡ false → (h : Symbol) (ts : Trees) (b c : Bool) → refinable_at s h ts false b c ≡ false
unrefined s p q addition ts b c = rw (p, q)
unrefined s p q unit none b c = refl
unrefined s p q unit (more t ts) b c = rw q
unrefined s p q frame ts b c = refl
unrefined s p q free none b c = refl
unrefined s p q free (more t ts) b c = rw q

mutual
  unfolding refinable substitute sorted natural message

  fill_natural : (t : Tree) → refinable TamNat t ≡ true → natural (substitute (fill 116) t) ≡ true
  fill_natural (variable x) e = fill_variable TamNat x e
  fill_natural (atom c d) e = e
  fill_natural (apply f ts) e =
      natural_filled (symbol f) ts (naturals ts) (refinables TamNat ts) (refinables Msg ts) (naturals (substitutes (fill 116) ts)) (λ z. fill_naturals ts z) e

  fill_naturals : (ts : Trees) → refinables TamNat ts ≡ true → naturals (substitutes (fill 116) ts) ≡ true
  fill_naturals none e = refl
  fill_naturals (more t ts) e =
      and_both (natural (substitute (fill 116) t)) (naturals (substitutes (fill 116) ts))
      (fill_natural t (and_left (refinable TamNat t) (refinables TamNat ts) e)) (fill_naturals ts (and_right (refinable TamNat t) (refinables TamNat ts) e))

mutual
  unfolding refinable substitute sorted natural message

  fill_message : (t : Tree) → refinable Msg t ≡ true → message (substitute (fill 116) t) ≡ true
  fill_message (variable x) e = fill_variable Msg x e
  fill_message (atom c d) e = e
  fill_message (apply f ts) e =
      message_filled (symbol f) ts (sorted Msg (apply f ts)) (naturals (substitutes (fill 116) ts)) (messages (substitutes (fill 116) ts))
      (λ z. fill_naturals ts z) (λ z. fill_messages ts z) e

  fill_messages : (ts : Trees) → refinables Msg ts ≡ true → messages (substitutes (fill 116) ts) ≡ true
  fill_messages none e = refl
  fill_messages (more t ts) e =
      and_both (message (substitute (fill 116) t)) (messages (substitutes (fill 116) ts))
      (fill_message t (and_left (refinable Msg t) (refinables Msg ts) e)) (fill_messages ts (and_right (refinable Msg t) (refinables Msg ts) e))

fill_instance : (s : Sort) (t : Tree) → refinable s t ≡ true → sorted s (substitute (fill (letter_to s)) t) ≡ true
unfolding refinable substitute sorted basic
fill_instance s (variable x) e = fill_variable s x e
fill_instance s (atom c d) e = e
fill_instance Pub (apply f ts) e = sym (unrefined Pub refl refl (symbol f) ts (refinables TamNat ts) (refinables Msg ts)) ∙ e
fill_instance Fresh (apply f ts) e = sym (unrefined Fresh refl refl (symbol f) ts (refinables TamNat ts) (refinables Msg ts)) ∙ e
fill_instance Msg (apply f ts) e = fill_message (apply f ts) e
fill_instance TamNat (apply f ts) e = fill_natural (apply f ts) e
fill_instance Node (apply f ts) e = sym (unrefined Node refl refl (symbol f) ts (refinables TamNat ts) (refinables Msg ts)) ∙ e

pub refinable_sorted : (arity : Text → ℕ) (s : Sort) (t : Tree) → refinable s t ≡ true
    → (σ : Substitution) × WellSorted arity σ × (sorted s (substitute σ t) ≡ true)
refinable_sorted arity s t e = (fill (letter_to s), fill_well arity s, fill_instance s t e)
