-- The square of sorts: two sorts meet exactly where they are one or one is a subsort of the other, and exactly where some tree
-- has both.
use mathlib.Core.Path.{◌≡◌, refl, sym, subst}
use mathlib.Core.Bool.{Bool, true, false, not, ◌||◌, beq, false≢true}
use mathlib.Core.Logic.{◌↔◌, ◌⊎◌, inl, inr, ⊎_elim}
use mathlib.Core.List.{[], ◌∷◌}
use Prim.Native.Nat.{ℕ}
use Rattle.rules.specs.Names.{letter, number}
use Rattle.rules.specs.Tree.{Tree, atom}
use Rattle.rules.specs.declared.Sort.{Sort}
use Rattle.rules.specs.declared.Sort.TheVariants.{Pub, Fresh, Msg, TamNat, Node}
use Rattle.rules.specs.Sorts.{intersects, natural, message, basic, sorted}
use Rattle.rules.specs.Membership.{Subsort, pub_msg, fresh_msg, tamnat_msg}
use Rattle.rules.specs.Tidy.{Built, an_atom}
use Rattle.laws.proofs.Basics.Tests.{or_cases}
use Rattle.laws.proofs.Sorts.Sorting.{all_sorts, at_sort, below, below_self, implies, below_meet, same_sort_eq, sorts_meet}

-- a test that holds of every sort above one
pub above : (c : Sort) (p : Sort → Bool) → all_sorts (λ s. not (below c s) || p s) ≡ true → (s : Sort) → below c s ≡ true → p s ≡ true
above c p e s h = implies (below c s) (p s) (at_sort (λ s. not (below c s) || p s) e s) h

-- the order of the sorts: one sort, or a subsort

pub below_subsort : {c s : Sort} → Subsort c s → below c s ≡ true
below_subsort pub_msg = refl
below_subsort fresh_msg = refl
below_subsort tamnat_msg = refl

pub subsort_below : (c s : Sort) → below c s ≡ true → (c ≡ s) ⊎ Subsort c s
subsort_below c Pub h = inl (same_sort_eq c Pub h)
subsort_below c Fresh h = inl (same_sort_eq c Fresh h)
subsort_below c TamNat h = inl (same_sort_eq c TamNat h)
subsort_below c Node h = inl (same_sort_eq c Node h)
subsort_below Pub Msg h = inr pub_msg
subsort_below Fresh Msg h = inr fresh_msg
subsort_below Msg Msg h = inl refl
subsort_below TamNat Msg h = inr tamnat_msg
subsort_below Node Msg h = absurd (false≢true h)

-- which sorts meet

abbrev Meet : Sort → Sort → Type 0
Meet a b = (a ≡ b) ⊎ Subsort a b ⊎ Subsort b a

-- one of two sorts that meet is below the other
meet_below : (a b : Sort) → intersects a b ≡ true → (below a b || below b a) ≡ true
meet_below a b = implies (intersects a b) (below a b || below b a)
    (at_sort (λ y. not (intersects a y) || (below a y || below y a))
    (at_sort (λ x. all_sorts (λ y. not (intersects x y) || (below x y || below y x))) refl a) b)

meet_cases : {a b : Sort} → (below a b ≡ true) ⊎ (below b a ≡ true) → Meet a b
meet_cases {a} {b} (inl h) = ⊎_elim inl (λ u. inr (inl u)) (subsort_below a b h)
meet_cases {a} {b} (inr h) = ⊎_elim (λ e. inl (sym e)) (λ u. inr (inr u)) (subsort_below b a h)

meets : {a b : Sort} → Meet a b → intersects a b ≡ true
meets {a} {b} (inl e) = below_meet a a b (below_self a) (subst (λ (z : Sort). below a z ≡ true) e (below_self a))
meets {a} {b} (inr (inl u)) = below_meet a a b (below_self a) (below_subsort u)
meets {a} {b} (inr (inr u)) = below_meet b a b (below_subsort u) (below_self b)

pub square_means : (a b : Sort) → (intersects a b ≡ true) ↔ ((a ≡ b) ⊎ Subsort a b ⊎ Subsort b a)
square_means a b = (λ e. meet_cases (or_cases (below a b) (below b a) (meet_below a b e)), meets)

agree : (a b : Bool) → beq a b ≡ true → a ≡ b
agree true true e = refl
agree true false e = sym e
agree false true e = e
agree false false e = refl

pub square_symmetric : (a b : Sort) → intersects a b ≡ intersects b a
square_symmetric a b = agree (intersects a b) (intersects b a)
    (at_sort (λ y. beq (intersects a y) (intersects y a)) (at_sort (λ x. all_sorts (λ y. beq (intersects x y) (intersects y x))) refl a) b)

-- trees that have both sorts

abbrev letter_of : Sort → ℕ
letter_of Pub = 112
letter_of Fresh = 102
letter_of Msg = 99
letter_of TamNat = 116
letter_of Node = 110

-- p(0), f(0), c(0), t(0), n(0)
abbrev sample : Sort → Tree
sample s = atom (letter_of s) (48 ∷ [])

sample_built : (s : Sort) → Built (sample s)
unfolding letter number
sample_built s = an_atom (at_sort (λ r. letter (letter_of r)) refl s) refl

sample_sorted : (c s : Sort) → below c s ≡ true → sorted s (sample c) ≡ true
unfolding sorted natural message basic
sample_sorted c = above c (λ s. sorted s (sample c)) (at_sort (λ r. all_sorts (λ s. not (below r s) || sorted s (sample r))) refl c)

abbrev Shared : Sort → Sort → Type 0
Shared a b = (t : Tree) × Built t × (sorted a t ≡ true) × (sorted b t ≡ true)

sampled : (a b : Sort) → (below a b ≡ true) ⊎ (below b a ≡ true) → Shared a b
sampled a b (inl h) = (sample a, sample_built a, sample_sorted a a (below_self a), sample_sorted a b h)
sampled a b (inr h) = (sample b, sample_built b, sample_sorted b a h, sample_sorted b b (below_self b))

pub square_shared : (a b : Sort) → (intersects a b ≡ true) ↔ ((t : Tree) × Built t × (sorted a t ≡ true) × (sorted b t ≡ true))
square_shared a b = (λ e. sampled a b (or_cases (below a b) (below b a) (meet_below a b e)), λ z. sorts_meet a b z.0 z.2 z.3)
