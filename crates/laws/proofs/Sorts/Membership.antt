-- The test of sorts against their declaration: the trees that are declared to have a sort are those that pass the test and keep
-- to the declared counts of arguments; a tidy tree keeps to them.
use mathlib.Core.Path.{◌≡◌, refl, ap, sym, subst, ◌∙◌}
use mathlib.Core.Bool.{Bool, true, false, cond, ◌&&◌, ◌||◌, false≢true}
use mathlib.Core.Logic.{◌↔◌, ⊎_elim}
use Prim.Native.Nat.{ℕ}
use native.Mathlib.Omega.{arith}
use Rattle.rules.specs.Bytes.{Text, same}
use Rattle.rules.specs.Text.{bytes}
use Rattle.rules.specs.Names.{letter}
use Rattle.rules.specs.Tree.{Tree, variable, atom, apply, Trees, none, more, count, tamtplus, plus}
use Rattle.rules.specs.declared.Sort.{Sort}
use Rattle.rules.specs.declared.Sort.TheVariants.{Pub, Fresh, Msg, TamNat, Node}
use Rattle.rules.specs.Sorts.{Symbol, addition, unit, frame, free, tone, is_frame, symbol, natural, naturals, message, messages, basic, sorted}
use Rattle.rules.specs.Membership.{Subsort, pub_msg, fresh_msg, tamnat_msg, reserved, NoneOf, HasSort, of_variable, of_p, of_f, of_c, of_t, of_n, of_tone, of_sum, of_other, of_subsort, HaveSort, nil, both, Ranked, Rankeds}
use Rattle.rules.specs.Tidy.{Arity, Tidy, Tidies}
use Rattle.laws.proofs.Basics.Tests.{and_left, and_right, and_both, neither_left, neither_right, same_eq, differ_of_ne, ne_of_differ}
use Rattle.laws.proofs.Sorts.Sorting.{below, below_self, named, sorted_variable, atom_sort, at_letters, sorted_atom, sorted_at, sorted_apply, symbol_sort, sorted_symbol, childless}
use Rattle.laws.proofs.Sorts.Square.{above, subsort_below}

-- the test on arguments, for any sort

sorteds : Sort → Trees → Bool
sorteds s none = true
sorteds s (more t ts) = sorted s t && sorteds s ts

naturals_sorted : (ts : Trees) → naturals ts ≡ sorteds TamNat ts
unfolding sorteds sorted natural
naturals_sorted none = refl
naturals_sorted (more t ts) = ap (λ (b : Bool). natural t && b) (naturals_sorted ts)

messages_sorted : (ts : Trees) → messages ts ≡ sorteds Msg ts
unfolding sorteds sorted message
messages_sorted none = refl
messages_sorted (more t ts) = ap (λ (b : Bool). message t && b) (messages_sorted ts)

-- names

data Stands (f : Text) : Symbol → Type 0 where
  for_sum : f ≡ tamtplus → Stands f addition
  for_unit : f ≡ tone → Stands f unit
  for_frame : Stands f frame
  for_other : NoneOf reserved f → Stands f free

stands : (f : Text) → Stands f (symbol f)
unfolding symbol is_frame
stands f = go (same f tamtplus) (same f tone) (is_frame f) refl refl refl
  where
    go : (a b c : Bool) → same f tamtplus ≡ a → same f tone ≡ b → is_frame f ≡ c → Stands f (cond a addition (cond b unit (cond c frame free)))
    go true b c p q r = for_sum (same_eq f tamtplus p)
    go false true c p q r = for_unit (same_eq f tone q)
    go false false true p q r = for_frame
    go false false false p q r =
        let z = neither_left (same f (bytes "list") || same f (bytes "cons")) (same f (bytes "nil")) r in
        let k = ne_of_differ (neither_left (same f (bytes "list")) (same f (bytes "cons")) z) in
        let l = ne_of_differ (neither_right (same f (bytes "list")) (same f (bytes "cons")) z) in
        let m = ne_of_differ (neither_right (same f (bytes "list") || same f (bytes "cons")) (same f (bytes "nil")) r) in
        for_other (ne_of_differ p, (ne_of_differ q, (k, (l, (m, tt)))))

symbol_free : (f : Text) → NoneOf reserved f → symbol f ≡ free
unfolding symbol is_frame
symbol_free f (a, (b, (c, (d, (e, u))))) = rw (differ_of_ne a, differ_of_ne b, differ_of_ne c, differ_of_ne d, differ_of_ne e)

-- what is declared passes the test, at every sort above

subsort_above : {r c : Sort} → Subsort r c → (s : Sort) → below c s ≡ true → below r s ≡ true
subsort_above pub_msg = above Msg (below Pub) refl
subsort_above fresh_msg = above Msg (below Fresh) refl
subsort_above tamnat_msg = above Msg (below TamNat) refl

mutual
  unfolding sorteds sorted natural message basic symbol

  has_above : {c : Sort} {t : Tree} → HasSort c t → (s : Sort) → below c s ≡ true → sorted s t ≡ true
  has_above (of_variable {s = c} {x = x} e) = λ s h. sorted_variable s c x e ∙ h
  has_above (of_p {d = d}) = above Pub (λ s. sorted s (atom 112 d)) refl
  has_above (of_f {d = d}) = above Fresh (λ s. sorted s (atom 102 d)) refl
  has_above (of_c {d = d}) = above Msg (λ s. sorted s (atom 99 d)) refl
  has_above (of_t {d = d}) = above TamNat (λ s. sorted s (atom 116 d)) refl
  has_above (of_n {d = d}) = above Node (λ s. sorted s (atom 110 d)) refl
  has_above of_tone = above TamNat (λ s. sorted s (apply tone none)) refl
  has_above (of_sum {a = a} {b = b} p q) =
      above TamNat (λ s. sorted s (plus a b)) (let m : natural a ≡ true = has_above p TamNat refl in let n : natural b ≡ true = has_above q TamNat refl in rw (m, n))
  has_above (of_other {g = g} {ts = ts} n p) =
      above Msg (λ s. sorted s (apply g ts)) (let m : messages ts ≡ true = messages_sorted ts ∙ have_above p in rw (symbol_free g n, m))
  has_above (of_subsort u p) = λ s h. has_above p s (subsort_above u s h)

  have_above : {s : Sort} {ts : Trees} → HaveSort s ts → sorteds s ts ≡ true
  have_above nil = refl
  have_above (both {s = s} {t = t} {ts = ts} p ps) = and_both (sorted s t) (sorteds s ts) (has_above p s (below_self s)) (have_above ps)

pub has_sorted : {s : Sort} {t : Tree} → HasSort s t → sorted s t ≡ true
has_sorted {s} p = has_above p s (below_self s)

-- what passes the test is declared

has_upper : (c s : Sort) {t : Tree} → below c s ≡ true → HasSort c t → HasSort s t
has_upper c s {t} h p = ⊎_elim (λ e. subst (λ (z : Sort). HasSort z t) e p) (λ u. of_subsort u p) (subsort_below c s h)

has_letter : (c : ℕ) (d : Text) → letter c ≡ true → HasSort (atom_sort c) (atom c d)
has_letter c d = at_letters (λ b. HasSort (atom_sort b) (atom b d)) of_p of_f of_c of_t of_n c

-- an application that has a sort has its symbol's
sorted_least : (s : Sort) (h : Symbol) (a b : Bool) → sorted_at s h a b ≡ true → sorted_at (symbol_sort h) h a b ≡ true
sorted_least Pub h a b e = absurd (false≢true e)
sorted_least Fresh h a b e = absurd (false≢true e)
sorted_least Msg addition a b e = e
sorted_least Msg unit a b e = refl
sorted_least Msg frame a b e = e
sorted_least Msg free a b e = e
sorted_least TamNat addition a b e = e
sorted_least TamNat unit a b e = e
sorted_least TamNat frame a b e = e
sorted_least TamNat free a b e = absurd (false≢true e)
sorted_least Node h a b e = absurd (false≢true e)

has_sum : (ts : Trees) → count ts ≡ 2 → HaveSort TamNat ts → HasSort TamNat (apply tamtplus ts)
has_sum none e h = absurd (omega arith)
has_sum (more a none) e h = absurd (omega arith)
has_sum (more a (more b none)) e (both p (both q r)) = of_sum p q
has_sum (more a (more b (more c ts))) e h = absurd (omega arith)

has_symbol : (f : Text) (ts : Trees) {h : Symbol} → Stands f h → (f ≡ tamtplus → count ts ≡ 2) → (f ≡ tone → count ts ≡ 0)
    → (naturals ts ≡ true → HaveSort TamNat ts) → (messages ts ≡ true → HaveSort Msg ts)
    → sorted_at (symbol_sort h) h (naturals ts) (messages ts) ≡ true → HasSort (symbol_sort h) (apply f ts)
has_symbol f ts (for_sum p) two nought n m e = subst (λ (g : Text). HasSort TamNat (apply g ts)) (sym p) (has_sum ts (two p) (n e))
has_symbol f ts (for_unit p) two nought n m e = let q = childless ts (nought p) in rw (p, q) of_tone
has_symbol f ts for_frame two nought n m e = absurd (false≢true e)
has_symbol f ts (for_other p) two nought n m e = of_other p (m e)

mutual
  unfolding sorteds

  pub sorted_has : (s : Sort) (t : Tree) → Ranked t → sorted s t ≡ true → HasSort s t
  sorted_has s (variable x) r e = let n = named s x e in has_upper n.0 s n.2 (of_variable n.1)
  sorted_has s (atom c d) r e = has_upper (atom_sort c) s (sorted_atom s c d e) (has_letter c d r)
  sorted_has s (apply f ts) r e =
      let z = sym (sorted_apply s f ts) ∙ e in
      has_upper (symbol_sort (symbol f)) s (sorted_symbol s (symbol f) (naturals ts) (messages ts) z)
      (has_symbol f ts (stands f) r.0 r.1 (λ n. sorted_have TamNat ts r.2 (sym (naturals_sorted ts) ∙ n)) (λ m. sorted_have Msg ts r.2 (sym (messages_sorted ts) ∙ m))
      (sorted_least s (symbol f) (naturals ts) (messages ts) z))

  sorted_have : (s : Sort) (ts : Trees) → Rankeds ts → sorteds s ts ≡ true → HaveSort s ts
  sorted_have s none r e = nil
  sorted_have s (more t ts) r e =
      both (sorted_has s t r.0 (and_left (sorted s t) (sorteds s ts) e)) (sorted_have s ts r.1 (and_right (sorted s t) (sorteds s ts) e))

-- every tree

mutual
  unfolding letter same

  has_ranked : {s : Sort} {t : Tree} → HasSort s t → Ranked t
  has_ranked (of_variable e) = tt
  has_ranked of_p = refl
  has_ranked of_f = refl
  has_ranked of_c = refl
  has_ranked of_t = refl
  has_ranked of_n = refl
  has_ranked of_tone = (λ e. absurd (ne_of_differ {x = tone} {y = tamtplus} refl e), λ e. refl, tt)
  has_ranked (of_sum p q) = (λ e. refl, λ e. absurd (ne_of_differ {x = tamtplus} {y = tone} refl e), (has_ranked p, (has_ranked q, tt)))
  has_ranked (of_other n ps) = (λ e. absurd (n.0 e), λ e. absurd (n.1.0 e), have_ranked ps)
  has_ranked (of_subsort u p) = has_ranked p

  have_ranked : {s : Sort} {ts : Trees} → HaveSort s ts → Rankeds ts
  have_ranked nil = tt
  have_ranked (both p ps) = (has_ranked p, have_ranked ps)

pub membership : (s : Sort) (t : Tree) → ((sorted s t ≡ true) × Ranked t) ↔ HasSort s t
membership s t = (λ z. sorted_has s t z.1 z.0, λ p. (has_sorted p, has_ranked p))

-- tidy trees

module _ (arity : Text → ℕ) (counts : Arity arity) where
  mutual
    ranked : (t : Tree) → Tidy arity t → Ranked t
    ranked (variable x) d = tt
    ranked (atom c n) d = d.0
    ranked (apply f ts) d = (λ e. d.0 ∙ ap arity e ∙ counts.sums, λ e. d.0 ∙ ap arity e ∙ counts.ones, rankeds ts d.2)

    rankeds : (ts : Trees) → Tidies arity ts → Rankeds ts
    rankeds none d = tt
    rankeds (more t ts) d = (ranked t d.0, rankeds ts d.1)

  pub tidy_membership : (s : Sort) (t : Tree) → Tidy arity t → (sorted s t ≡ true) ↔ HasSort s t
  tidy_membership s t d = (sorted_has s t (ranked t d), has_sorted)
