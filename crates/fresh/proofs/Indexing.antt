-- The indices of variables and the base above them: one name, the names at places, and the names of a tree in byte order.
use Prim.Native.Nat.{ℕ, suc, ◌+◌, ◌-◌, ◌<◌, ◌≤◌, max}
use mathlib.Core.Path.{◌≡◌, refl, sym, ap, ◌∙◌}
use mathlib.Core.Bool.{Bool, true, false, cond, ◌&&◌}
use mathlib.Core.List.{List, [], ◌∷◌, ◌++◌, map}
use Rattle.std.specs.Prelude.{Option, Some, None}
use lib.Pointwise.{pointwise}
use lib.Dec.{eqb, leb}
use lib.ListN.{length, get_or, take, drop, drop_of_length-le}
use lib.Seq.{slice, length-take-le}
use native.Mathlib.Omega.{arith}
use borrow.Author.Tests.{eq-eqb, ne_eqb, eqb-true, eqb-false}
use Rattle.rules.specs.Bytes.{Text, same, upto}
use Rattle.rules.specs.Maybe.{◌>>=◌}
use Rattle.rules.specs.Names.{digit}
use Rattle.rules.specs.Tokens.{run_length}
use Rattle.rules.specs.Decimal.{value_from, proper, number_up_to}
use Rattle.rules.specs.Tree as tree
use Rattle.rules.specs.Cover.{insert_once}
use Rattle.rules.specs.Variants.{index_of, fresh_base, fresh_base_in}
use Rattle.rules.specs.Tree.{variable_names, variable_names_in}
use Rattle.laws.proofs.Basics.Tests.{same_eq, leb_true, and_left}
use Rattle.text.specs.Places.{text_at}
use Rattle.text.proofs.Slices.{drop_take}
use Rattle.text.proofs.Loops.{drop_next}
use Rattle.syntax.proofs.Runs.{run_le}
use Rattle.variables.specs.Ordered.{inserted, ordered_once}
use Rattle.fresh.specs.Indices.{names_base_from, names_base}

-- ---- one name

abbrev largest : ℕ
largest = 9223372036854775807

index_digits : (x : Text) → get_or x 0 0 ≡ 120 → index_of x ≡ number_up_to largest (take (run_length digit (drop 1 x)) (drop 1 x))
unfolding index_of
index_digits [] e = absurd (omega arith)
index_digits (b ∷ s) e = rw (eq-eqb b 120 e)

index_other : (x : Text) → (get_or x 0 0 ≡ 120 → ⊥) → index_of x ≡ None
unfolding index_of
index_other [] e = refl
index_other (b ∷ s) e = rw (ne_eqb b 120 e)

pub unindexed : (x : Text) → pointwise eqb (take 1 x) (120 ∷ []) ≡ false → None ≡ index_of x
unindexed [] e = sym (index_other [] (λ k. omega arith))
unindexed (b ∷ x) e = sym (index_other (b ∷ x) (λ k. let f = eq-eqb b 120 k in cc))

pub led_by_x : (x : Text) → pointwise eqb (take 1 x) (120 ∷ []) ≡ true → get_or x 0 0 ≡ 120
led_by_x [] e = cc
led_by_x (b ∷ x) e = eqb-true b 120 (and_left (eqb b 120) true e)

-- the digits after the first byte
pub index_read : (x rest : Text) (end : ℕ) → end ≡ 0 + run_length digit (drop 0 rest) → rest ≡ drop 1 x → get_or x 0 0 ≡ 120 → number_up_to largest (take end rest) ≡ index_of x
index_read x rest end e d h =
    let k : end ≡ run_length digit rest = omega (arith, e) in
    ap (λ (n : ℕ). number_up_to largest (take n rest)) k ∙ ap (λ (y : Text). number_up_to largest (take (run_length digit y) y)) d ∙ sym (index_digits x h)

pub digits_inside : (rest : Text) (end : ℕ) → end ≡ 0 + run_length digit (drop 0 rest) → end ≡ length (take end rest)
digits_inside rest end e = sym (length-take-le end rest (omega (arith, e, run_le digit rest)))

-- an index is below 2^63
number_bounded : (bound : ℕ) (s : Text) (n : ℕ) → number_up_to bound s ≡ Some n → n ≤ bound
unfolding number_up_to
number_bounded bound s n e = go (proper s) (leb (value_from 0 s) bound) refl e
  where
    go : (a b : Bool) → leb (value_from 0 s) bound ≡ b → cond (a && b) (Some (value_from 0 s)) None ≡ Some n → n ≤ bound
    go true true f e = let z : value_from 0 s ≡ n = cc in omega (arith, leb_true (value_from 0 s) bound f)
    go true false f e = let z : ◌≡◌ {A = ℕ} 0 1 = cc in absurd (omega arith)
    go false b f e = let z : ◌≡◌ {A = ℕ} 0 1 = cc in absurd (omega arith)

pub index_bounded : (x : Text) (n : ℕ) → index_of x ≡ Some n → n ≤ largest
index_bounded [] n e = let f : None ≡ Some n = sym (index_other [] (λ k. omega arith)) ∙ e in let z : ◌≡◌ {A = ℕ} 0 1 = cc in absurd (omega arith)
index_bounded (b ∷ s) n e = go (eqb b 120) refl
  where
    go : (t : Bool) → eqb b 120 ≡ t → n ≤ largest
    go true h = number_bounded largest _ n (sym (index_digits (b ∷ s) (eqb-true b 120 h)) ∙ e)
    go false h = let f : None ≡ Some n = sym (index_other (b ∷ s) (eqb-false b 120 h)) ∙ e in let z : ◌≡◌ {A = ℕ} 0 1 = cc in absurd (omega arith)

-- ---- the base above several names

pub base_next : (base : ℕ) (x : Text) (xs : List Text) (n : ℕ) → index_of x ≡ Some n → names_base_from base (x ∷ xs) ≡ names_base_from (max base (suc n)) xs
unfolding names_base_from
base_next base x xs n e = rw e

base_stops : (base : ℕ) (x : Text) (xs : List Text) → index_of x ≡ None → names_base_from base (x ∷ xs) ≡ None
unfolding names_base_from
base_stops base x xs e = rw e

-- at most 2^63
pub base_bounded : (base : ℕ) (xs : List Text) (b : ℕ) → names_base_from base xs ≡ Some b → base ≤ suc largest → b ≤ suc largest
unfolding names_base_from
base_bounded base [] b e h = let z : base ≡ b = cc in omega arith
base_bounded base (x ∷ xs) b e h = go (index_of x) refl (λ base. base_bounded base xs b)
  where
    go : (o : Option ℕ) → index_of x ≡ o → ((base : ℕ) → names_base_from base xs ≡ Some b → base ≤ suc largest → b ≤ suc largest) → b ≤ suc largest
    go None f r = let g : None ≡ Some b = sym (base_stops base x xs f) ∙ e in let z : ◌≡◌ {A = ℕ} 0 1 = cc in absurd (omega arith)
    go (Some n) f r = r (max base (suc n)) (sym (base_next base x xs n f) ∙ e) (omega (arith, index_bounded x n f))

-- ---- the names at places

pub listed_first : (s : Text) (w : List ℕ) (from to : ℕ) → names_base_from 0 (map (text_at s) (drop 0 (take (to - from) (drop from w)))) ≡ names_base (map (text_at s) (slice from to w))
listed_first s w from to = ap (λ (l : List ℕ). names_base_from 0 (map (text_at s) l)) (sym (drop_take from to w))

module _ (s : Text) (l : List ℕ) (i : ℕ) where
  listed_next : i < length l → map (text_at s) (drop i l) ≡ text_at s (get_or l i 0) ∷ map (text_at s) (drop (i + 1) l)
  listed_next p = ap (map (text_at s)) (drop_next l i p)

  pub listed_ends : (base : ℕ) {o : Option ℕ} → length l ≤ i → names_base_from base (map (text_at s) (drop i l)) ≡ o → Some base ≡ o
  unfolding names_base_from
  listed_ends base p e = sym (ap (λ (m : List ℕ). names_base_from base (map (text_at s) m)) (drop_of_length-le l p)) ∙ e

  -- a turn of the loop: what the name's index is
  module _ {x : Text} (base : ℕ) {o : Option ℕ} (p : i < length l) (t : x ≡ text_at s (get_or l i 0)) (h : names_base_from base (map (text_at s) (drop i l)) ≡ o) where
    one_first : names_base_from base (x ∷ map (text_at s) (drop (i + 1) l)) ≡ o
    one_first = ap (λ (y : Text). names_base_from base (y ∷ map (text_at s) (drop (i + 1) l))) t ∙ ap (names_base_from base) (sym (listed_next p)) ∙ h

    pub listed_passes : {n : ℕ} → Some n ≡ index_of x → names_base_from (max base (n + 1)) (map (text_at s) (drop (i + 1) l)) ≡ o
    listed_passes {n} e =
        let y : max base (n + 1) ≡ max base (suc n) = omega arith in
        rw y (sym (base_next base x (map (text_at s) (drop (i + 1) l)) n (sym e)) ∙ one_first)

    pub listed_fails : None ≡ index_of x → None ≡ o
    listed_fails e = sym (base_stops base x (map (text_at s) (drop (i + 1) l)) (sym e)) ∙ one_first

-- ---- names in byte order, each once

module _ (base : ℕ) (x : Text) where
  base_twice : (xs : List Text) → names_base_from base (x ∷ xs) ≡ names_base_from base (x ∷ x ∷ xs)
  unfolding names_base_from
  base_twice xs = go (index_of x)
    where
      go : (o : Option ℕ) → (o >>= λ i. names_base_from (max base (suc i)) xs) ≡ (o >>= λ i. o >>= λ j. names_base_from (max (max base (suc i)) (suc j)) xs)
      go None = refl
      go (Some n) = let e : max base (suc n) ≡ max (max base (suc n)) (suc n) = omega arith in ap (λ (b : ℕ). names_base_from b xs) e

  base_swap : (y : Text) (xs : List Text) → names_base_from base (x ∷ y ∷ xs) ≡ names_base_from base (y ∷ x ∷ xs)
  unfolding names_base_from
  base_swap y xs = go (index_of x) (index_of y)
    where
      go : (o p : Option ℕ) → (o >>= λ i. p >>= λ j. names_base_from (max (max base (suc i)) (suc j)) xs) ≡ (p >>= λ i. o >>= λ j. names_base_from (max (max base (suc i)) (suc j)) xs)
      go None None = refl
      go None (Some n) = refl
      go (Some m) None = refl
      go (Some m) (Some n) = let e : max (max base (suc m)) (suc n) ≡ max (max base (suc n)) (suc m) = omega arith in ap (λ (b : ℕ). names_base_from b xs) e

-- names that have one base from every start have it after one name more
base_under : (base : ℕ) (x : Text) (l m : List Text) → ((b : ℕ) → names_base_from b l ≡ names_base_from b m) → names_base_from base (x ∷ l) ≡ names_base_from base (x ∷ m)
unfolding names_base_from
base_under base x l m h = go (index_of x)
  where
    go : (o : Option ℕ) → (o >>= λ i. names_base_from (max base (suc i)) l) ≡ (o >>= λ i. names_base_from (max base (suc i)) m)
    go None = refl
    go (Some n) = h (max base (suc n))

once_base : (x : Text) (l : List Text) (base : ℕ) → names_base_from base (insert_once x l) ≡ names_base_from base (x ∷ l)
unfolding insert_once
once_base x [] base = refl
once_base x (y ∷ l) base = go (same x y) (upto x y) refl (once_base x l)
  where
    go : (a b : Bool) → same x y ≡ a → ((b : ℕ) → names_base_from b (insert_once x l) ≡ names_base_from b (x ∷ l))
        → names_base_from base (elim a [ true ↦ y ∷ l | false ↦ elim b [ true ↦ x ∷ y ∷ l | false ↦ y ∷ insert_once x l ] ]) ≡ names_base_from base (x ∷ y ∷ l)
    go true b e h = base_twice base y l ∙ ap (λ (z : Text). names_base_from base (z ∷ y ∷ l)) (sym (same_eq x y e))
    go false true e h = refl
    go false false e h = base_under base y (insert_once x l) (x ∷ l) h ∙ base_swap base y x l

ordered_base : (xs : List Text) (base : ℕ) → names_base_from base (ordered_once xs) ≡ names_base_from base xs
unfolding inserted
ordered_base [] base = refl
ordered_base (x ∷ xs) base = once_base x (ordered_once xs) base ∙ base_under base x (ordered_once xs) xs (ordered_base xs)

-- ---- the names of a tree

base_append : (xs ys : List Text) (base : ℕ) → names_base_from base (xs ++ ys) ≡ (names_base_from base xs >>= λ b. names_base_from b ys)
unfolding names_base_from
base_append [] ys base = refl
base_append (x ∷ xs) ys base = go (index_of x) (base_append xs ys)
  where
    go : (o : Option ℕ) → ((base : ℕ) → names_base_from base (xs ++ ys) ≡ (names_base_from base xs >>= λ b. names_base_from b ys))
        → (o >>= λ i. names_base_from (max base (suc i)) (xs ++ ys)) ≡ ((o >>= λ i. names_base_from (max base (suc i)) xs) >>= λ b. names_base_from b ys)
    go None r = refl
    go (Some n) r = r (max base (suc n))

under : (ts : tree.Trees) (o : Option ℕ) → ((b : ℕ) → names_base_from b (variable_names_in ts) ≡ fresh_base_in ts b)
    → (o >>= λ b. names_base_from b (variable_names_in ts)) ≡ (o >>= λ b. fresh_base_in ts b)
under ts None h = refl
under ts (Some b) h = h b

mutual
  unfolding variable_names fresh_base names_base_from

  tree_base : (t : tree.Tree) (base : ℕ) → names_base_from base (variable_names t) ≡ fresh_base t base
  tree_base (tree.variable x) base = refl
  tree_base (tree.atom c d) base = refl
  tree_base (tree.apply f ts) base = trees_base ts base

  trees_base : (ts : tree.Trees) (base : ℕ) → names_base_from base (variable_names_in ts) ≡ fresh_base_in ts base
  trees_base tree.none base = refl
  trees_base (tree.more t ts) base =
      base_append (variable_names t) (variable_names_in ts) base
      ∙ ap (λ (o : Option ℕ). o >>= λ b. names_base_from b (variable_names_in ts)) (tree_base t base)
      ∙ under ts (fresh_base t base) (λ b. trees_base ts b)

-- the base of a tree, by its names in byte order
pub ordered_names_base : (t : tree.Tree) → names_base (ordered_once (variable_names t)) ≡ fresh_base t 0
ordered_names_base t = ordered_base (variable_names t) 0 ∙ tree_base t 0
