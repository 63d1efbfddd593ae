-- The variables that cover and complete go through are those that occur, in byte order, each once.
use mathlib.Core.Path.{◌≡◌, refl, ap, sym, subst, ◌∙◌}
use mathlib.Core.Bool.{Bool, true, false, ◌||◌, false≢true}
use mathlib.Core.List.Memᴰ
use mathlib.Core.List.{List, [], ◌∷◌, Memᴰ}
use mathlib.Core.Logic.{◌↔◌, ◌⊎◌, inl, inr, ⊎_map, ⊎_elim}
use Rattle.rules.specs.Bytes.{Text, same, upto}
use Rattle.rules.specs.Tree.{Tree, variable, atom, apply, Trees, none, more, occurs, occurs_in}
use Rattle.rules.specs.Substitution.{Pair, flatten}
use Rattle.rules.specs.Cover.{insert_once, variables, variables_in, variables_of}
use Rattle.rules.specs.Families.{Ascending}
use Rattle.laws.proofs.Basics.Tests.{or_left, or_right, or_cases, same_eq, same_of_eq, ne_of_differ}
use Rattle.laws.proofs.Basics.Order.{upto_one, upto_after}

-- One text more

inserted : (x : Text) (xs : List Text) → Memᴰ x (insert_once x xs)
unfolding insert_once
inserted x [] = Memᴰ.head refl
inserted x (z ∷ zs) = go (same x z) refl (upto x z) (inserted x zs)
  where
    go : (b : Bool) → same x z ≡ b → (c : Bool) → Memᴰ x (insert_once x zs)
        → Memᴰ x (elim b [ true ↦ z ∷ zs | false ↦ elim c [ true ↦ x ∷ z ∷ zs | false ↦ z ∷ insert_once x zs ] ])
    go true e c k = Memᴰ.head (same_eq x z e)
    go false e true k = Memᴰ.head refl
    go false e false k = Memᴰ.tail k

insert_keeps : (x y : Text) (xs : List Text) → Memᴰ y xs → Memᴰ y (insert_once x xs)
unfolding insert_once
insert_keeps x y [] m = absurd (Memᴰ.not-nil m)
insert_keeps x y (z ∷ zs) m = go (same x z) (upto x z) (insert_keeps x y zs)
  where
    go : (b c : Bool) → (Memᴰ y zs → Memᴰ y (insert_once x zs))
        → Memᴰ y (elim b [ true ↦ z ∷ zs | false ↦ elim c [ true ↦ x ∷ z ∷ zs | false ↦ z ∷ insert_once x zs ] ])
    go true c k = m
    go false true k = Memᴰ.tail m
    go false false k = ⊎_elim (λ e. Memᴰ.head e) (λ n. Memᴰ.tail (k n)) (Memᴰ.cases_cons m)

insert_adds : (x y : Text) (xs : List Text) → Memᴰ y (insert_once x xs) → (y ≡ x) ⊎ Memᴰ y xs
unfolding insert_once
insert_adds x y [] m = Memᴰ.cases_cons m
insert_adds x y (z ∷ zs) m = go (same x z) (upto x z) (insert_adds x y zs) m
  where
    go : (b c : Bool) → (Memᴰ y (insert_once x zs) → (y ≡ x) ⊎ Memᴰ y zs)
        → Memᴰ y (elim b [ true ↦ z ∷ zs | false ↦ elim c [ true ↦ x ∷ z ∷ zs | false ↦ z ∷ insert_once x zs ] ]) → (y ≡ x) ⊎ Memᴰ y (z ∷ zs)
    go true c k n = inr n
    go false true k n = Memᴰ.cases_cons n
    go false false k n = ⊎_elim (λ e. inr (Memᴰ.head e)) (λ i. ⊎_map (λ e. e) (λ j. Memᴰ.tail j) (k i)) (Memᴰ.cases_cons n)

not_back : (x y : Text) → same x y ≡ false → upto x y ≡ true → upto y x ≡ false
not_back x y e f = go (upto y x) refl
  where
    go : (b : Bool) → upto y x ≡ b → b ≡ false
    go true g = absurd (ne_of_differ e (upto_one x y f g))
    go false g = refl

insert_ascending : (x : Text) (xs : List Text) → Ascending xs → Ascending (insert_once x xs)
unfolding insert_once
insert_ascending x [] h = (λ y m. absurd (Memᴰ.not-nil m), tt)
insert_ascending x (y ∷ ys) h = go (same x y) refl (upto x y) refl (insert_ascending x ys h.1)
  where
    go : (b : Bool) → same x y ≡ b → (c : Bool) → upto x y ≡ c → Ascending (insert_once x ys)
        → Ascending (elim b [ true ↦ y ∷ ys | false ↦ elim c [ true ↦ x ∷ y ∷ ys | false ↦ y ∷ insert_once x ys ] ])
    go true e c f k = h
    go false e true f k =
        (λ z m. ⊎_elim (λ p. subst (λ (w : Text). upto w x ≡ false) (sym p) (not_back x y e f)) (λ n. upto_after x z y f (h.0 z n)) (Memᴰ.cases_cons m), h)
    go false e false f k = (λ z m. ⊎_elim (λ p. subst (λ (w : Text). upto w y ≡ false) (sym p) f) (λ n. h.0 z n) (insert_adds x z ys m), k)

-- Trees

mutual
  unfolding variables

  variables_ascending : (t : Tree) (found : List Text) → Ascending found → Ascending (variables t found)
  variables_ascending (variable x) found h = insert_ascending x found h
  variables_ascending (atom c d) found h = h
  variables_ascending (apply f ts) found h = variables_in_ascending ts found h

  variables_in_ascending : (ts : Trees) (found : List Text) → Ascending found → Ascending (variables_in ts found)
  variables_in_ascending none found h = h
  variables_in_ascending (more t ts) found h = variables_in_ascending ts (variables t found) (variables_ascending t found h)

mutual
  unfolding variables occurs

  listed_occurs : (t : Tree) (found : List Text) (x : Text) → Memᴰ x (variables t found) → (occurs x t ≡ true) ⊎ Memᴰ x found
  listed_occurs (variable y) found x m = ⊎_map (λ e. same_of_eq (sym e)) (λ n. n) (insert_adds y x found m)
  listed_occurs (atom c d) found x m = inr m
  listed_occurs (apply f ts) found x m = listed_occurs_in ts found x m

  listed_occurs_in : (ts : Trees) (found : List Text) (x : Text) → Memᴰ x (variables_in ts found) → (occurs_in x ts ≡ true) ⊎ Memᴰ x found
  listed_occurs_in none found x m = inr m
  listed_occurs_in (more t ts) found x m =
      ⊎_elim (λ e. inl (ap (λ (b : Bool). occurs x t || b) e ∙ or_right (occurs x t)))
      (λ n. ⊎_map (or_left (occurs x t) (occurs_in x ts)) (λ k. k) (listed_occurs t found x n)) (listed_occurs_in ts (variables t found) x m)

mutual
  unfolding variables occurs

  occurs_listed : (t : Tree) (found : List Text) (x : Text) → (occurs x t ≡ true) ⊎ Memᴰ x found → Memᴰ x (variables t found)
  occurs_listed (variable y) found x (inl e) = subst (λ (z : Text). Memᴰ z (insert_once y found)) (same_eq y x e) (inserted y found)
  occurs_listed (variable y) found x (inr m) = insert_keeps y x found m
  occurs_listed (atom c d) found x (inl e) = absurd (false≢true e)
  occurs_listed (atom c d) found x (inr m) = m
  occurs_listed (apply f ts) found x h = occurs_listed_in ts found x h

  occurs_listed_in : (ts : Trees) (found : List Text) (x : Text) → (occurs_in x ts ≡ true) ⊎ Memᴰ x found → Memᴰ x (variables_in ts found)
  occurs_listed_in none found x (inl e) = absurd (false≢true e)
  occurs_listed_in none found x (inr m) = m
  occurs_listed_in (more t ts) found x (inl e) = occurs_listed_in ts (variables t found) x
      (⊎_elim (λ p. inr (occurs_listed t found x (inl p))) (λ p. inl p) (or_cases (occurs x t) (occurs_in x ts) e))
  occurs_listed_in (more t ts) found x (inr m) = occurs_listed_in ts (variables t found) x (inr (occurs_listed t found x (inr m)))

pub variables_members : (t : Tree) (x : Text) → Memᴰ x (variables t []) ↔ (occurs x t ≡ true)
variables_members t x = (λ m. ⊎_elim (λ e. e) (λ n. absurd (Memᴰ.not-nil n)) (listed_occurs t [] x m), λ e. occurs_listed t [] x (inl e))

pub variables_order : (t : Tree) → Ascending (variables t [])
variables_order t = variables_ascending t [] tt

-- Pairs

of_pairs : (ps : List Pair) (x : Text) → Memᴰ x (variables_of ps) → occurs_in x (flatten ps) ≡ true
unfolding variables_of flatten occurs
of_pairs [] x m = absurd (Memᴰ.not-nil m)
of_pairs (p ∷ ps) x m =
    ⊎_elim (or_left (occurs x p.0) (occurs x p.1 || occurs_in x (flatten ps)))
    (λ n. ap (λ (b : Bool). occurs x p.0 || b) (⊎_elim (or_left (occurs x p.1) (occurs_in x (flatten ps)))
    (λ k. ap (λ (b : Bool). occurs x p.1 || b) (of_pairs ps x k) ∙ or_right (occurs x p.1)) (listed_occurs p.1 (variables_of ps) x n)) ∙ or_right (occurs x p.0))
    (listed_occurs p.0 (variables p.1 (variables_of ps)) x m)

in_pairs : (ps : List Pair) (x : Text) → occurs_in x (flatten ps) ≡ true → Memᴰ x (variables_of ps)
unfolding variables_of flatten occurs
in_pairs [] x e = absurd (false≢true e)
in_pairs (p ∷ ps) x e =
    occurs_listed p.0 (variables p.1 (variables_of ps)) x (⊎_map (λ h. h)
    (λ h. occurs_listed p.1 (variables_of ps) x (⊎_map (λ k. k) (λ k. in_pairs ps x k) (or_cases (occurs x p.1) (occurs_in x (flatten ps)) h)))
    (or_cases (occurs x p.0) (occurs x p.1 || occurs_in x (flatten ps)) e))

pub variables_of_members : (ps : List Pair) (x : Text) → Memᴰ x (variables_of ps) ↔ (occurs_in x (flatten ps) ≡ true)
variables_of_members ps x = (of_pairs ps x, in_pairs ps x)

pub variables_of_order : (ps : List Pair) → Ascending (variables_of ps)
unfolding variables_of
variables_of_order [] = tt
variables_of_order (p ∷ ps) = variables_ascending p.0 (variables p.1 (variables_of ps)) (variables_ascending p.1 (variables_of ps) (variables_of_order ps))
