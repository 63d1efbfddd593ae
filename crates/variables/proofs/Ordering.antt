-- Inserting texts once: in any order, and by sorting and dropping repeats; and the variables of trees as texts inserted.
use mathlib.Core.Path.{◌≡◌, refl, sym, ap, ◌∙◌}
use mathlib.Core.Bool.{Bool, true, false, true≢false}
use mathlib.Core.List.{List, [], ◌∷◌, ◌++◌}
use Rattle.rules.specs.Bytes.{Text, same, upto, insert, sort}
use Rattle.rules.specs.Tree.{Tree, variable, atom, apply, Trees, none, more, variable_names, variable_names_in}
use Rattle.rules.specs.Substitution.{Pair, flatten}
use Rattle.rules.specs.Cover.{insert_once, variables, variables_in, variables_of}
use Rattle.laws.proofs.Basics.Tests.{same_eq, same_of_eq, differ_of_ne, ne_of_differ}
use Rattle.laws.proofs.Basics.Order.{upto_equal, upto_other, upto_one, upto_after, insert_before, insert_after}
use Rattle.laws.proofs.Solving.Keeping.{other_way}
use Rattle.variables.specs.Ordered.{inserted, ordered_once, unique}
use Rattle.variables.specs.Variables.{repeats}

-- ---- the order of two texts

differs : (x y : Text) → upto x y ≡ false → same x y ≡ false
differs x y e = differ_of_ne {x = x} {y = y} (λ p. true≢false (sym (upto_equal p) ∙ e))

data Order (x y : Text) : Type 0 where
  equal : x ≡ y → Order x y
  before : same x y ≡ false → upto x y ≡ true → upto y x ≡ false → Order x y
  after : upto x y ≡ false → upto y x ≡ true → Order x y

order : (x y : Text) → Order x y
order x y = go (same x y) (upto x y) (upto y x) refl refl refl
  where
    go : (a b c : Bool) → same x y ≡ a → upto x y ≡ b → upto y x ≡ c → Order x y
    go true b c e f g = equal (same_eq x y e)
    go false true true e f g = absurd (ne_of_differ e (upto_one x y f g))
    go false true false e f g = before e f g
    go false false c e f g = after f (upto_other x y f)

-- ---- insertion, by the order

module _ (x y : Text) (l : List Text) where
  by_same : {b : Bool} → same x y ≡ b → insert_once x (y ∷ l) ≡ elim b [ true ↦ y ∷ l | false ↦ elim (upto x y) [ true ↦ x ∷ y ∷ l | false ↦ y ∷ insert_once x l ] ]
  unfolding insert_once
  by_same e = ap {B = List Text} (λ (b : Bool). elim b [ true ↦ y ∷ l | false ↦ elim (upto x y) [ true ↦ x ∷ y ∷ l | false ↦ y ∷ insert_once x l ] ]) e

  by_order : {b : Bool} → same x y ≡ false → upto x y ≡ b → insert_once x (y ∷ l) ≡ elim b [ true ↦ x ∷ y ∷ l | false ↦ y ∷ insert_once x l ]
  by_order e f = by_same e ∙ ap {B = List Text} (λ (b : Bool). elim b [ true ↦ x ∷ y ∷ l | false ↦ y ∷ insert_once x l ]) f

  once_same : x ≡ y → insert_once x (y ∷ l) ≡ y ∷ l
  once_same e = by_same (same_of_eq e)

  once_before : same x y ≡ false → upto x y ≡ true → insert_once x (y ∷ l) ≡ x ∷ y ∷ l
  once_before e f = by_order e f

  once_after : upto x y ≡ false → insert_once x (y ∷ l) ≡ y ∷ insert_once x l
  once_after f = by_order (differs x y f) f

  unique_same : same x y ≡ true → unique (x ∷ y ∷ l) ≡ unique (y ∷ l)
  unfolding unique
  unique_same e = rw e

  unique_differ : same x y ≡ false → unique (x ∷ y ∷ l) ≡ x ∷ unique (y ∷ l)
  unfolding unique
  unique_differ e = rw e

-- a first text that is also the second, and one that is not
pub unique_skip : (x : Text) (l : List Text) → repeats (x ∷ l) ≡ true → unique (x ∷ l) ≡ unique l
unfolding repeats
unique_skip x [] e = absurd (true≢false (sym e))
unique_skip x (y ∷ l) e = unique_same x y l e

pub unique_keep : (x : Text) (l : List Text) → repeats (x ∷ l) ≡ false → unique (x ∷ l) ≡ x ∷ unique l
unfolding repeats unique
unique_keep x [] e = refl
unique_keep x (y ∷ l) e = unique_differ x y l e

-- two texts that both go to the front
once_front : (x y : Text) (l : List Text) → insert_once x l ≡ x ∷ l → insert_once y l ≡ y ∷ l → insert_once x (y ∷ l) ≡ insert_once y (x ∷ l)
once_front x y l p q = go (order x y)
  where
    go : Order x y → insert_once x (y ∷ l) ≡ insert_once y (x ∷ l)
    go (equal e) = cc
    go (before e f g) = cc (once_before x y l e f, once_after y x l g)
    go (after f g) = cc (once_after x y l f, once_before y x l (other_way x y (differs x y f)) g)

once_swap : (x y : Text) (l : List Text) → insert_once x (insert_once y l) ≡ insert_once y (insert_once x l)
unfolding insert_once
once_swap x y [] = once_front x y [] refl refl
once_swap x y (c ∷ l) = go (order x c) (order y c) (once_swap x y l)
  where
    go : Order x c → Order y c → insert_once x (insert_once y l) ≡ insert_once y (insert_once x l) → insert_once x (insert_once y (c ∷ l)) ≡ insert_once y (insert_once x (c ∷ l))
    go (equal p) (equal q) h = cc
    go (equal p) (before e f g) h = cc (once_same x c l p, once_before y c l e f, once_after c y (c ∷ l) g, once_same c c l refl)
    go (equal p) (after f g) h = cc (once_same x c l p, once_after y c l f, once_same x c (insert_once y l) p)
    go (before e f g) (equal q) h = cc (once_same y c l q, once_before x c l e f, once_after c x (c ∷ l) g, once_same c c l refl)
    go (after f g) (equal q) h = cc (once_same y c l q, once_after x c l f, once_same y c (insert_once x l) q)
    go (before e f g) (before e₂ f₂ g₂) h = cc (once_before x c l e f, once_before y c l e₂ f₂, once_front x y (c ∷ l) (once_before x c l e f) (once_before y c l e₂ f₂))
    go (before e f g) (after f₂ g₂) h = cc (once_before x c l e f, once_after y c l f₂, once_before x c (insert_once y l) e f, once_after y x (c ∷ l) (upto_after x y c f f₂))
    go (after f g) (before e₂ f₂ g₂) h = cc (once_after x c l f, once_before y c l e₂ f₂, once_before y c (insert_once x l) e₂ f₂, once_after x y (c ∷ l) (upto_after y x c f₂ f))
    go (after f g) (after f₂ g₂) h = cc (once_after x c l f, once_after y c l f₂, once_after x c (insert_once y l) f, once_after y c (insert_once x l) f₂)

-- ---- many texts

inserted_append : (xs ys found : List Text) → inserted (xs ++ ys) found ≡ inserted xs (inserted ys found)
unfolding inserted
inserted_append [] ys found = refl
inserted_append (x ∷ xs) ys found = ap (insert_once x) (inserted_append xs ys found)

inserted_once : (x : Text) (xs found : List Text) → inserted xs (insert_once x found) ≡ insert_once x (inserted xs found)
unfolding inserted
inserted_once x [] found = refl
inserted_once x (y ∷ xs) found = ap (insert_once y) (inserted_once x xs found) ∙ once_swap y x (inserted xs found)

inserted_swap : (xs ys found : List Text) → inserted xs (inserted ys found) ≡ inserted ys (inserted xs found)
unfolding inserted
inserted_swap [] ys found = refl
inserted_swap (x ∷ xs) ys found = ap (insert_once x) (inserted_swap xs ys found) ∙ sym (inserted_once x ys (inserted xs found))

-- ---- the variables of trees

mutual
  unfolding variables variable_names inserted

  pub variables_inserted : (t : Tree) (found : List Text) → variables t found ≡ inserted (variable_names t) found
  variables_inserted (variable x) found = refl
  variables_inserted (atom c d) found = refl
  variables_inserted (apply f ts) found = variables_in_inserted ts found

  pub variables_in_inserted : (ts : Trees) (found : List Text) → variables_in ts found ≡ inserted (variable_names_in ts) found
  variables_in_inserted none found = refl
  variables_in_inserted (more t ts) found =
      variables_in_inserted ts (variables t found)
      ∙ ap (inserted (variable_names_in ts)) (variables_inserted t found)
      ∙ inserted_swap (variable_names_in ts) (variable_names t) found
      ∙ sym (inserted_append (variable_names t) (variable_names_in ts) found)

pub variables_ordered : (ps : List Pair) → variables_of ps ≡ ordered_once (variable_names_in (flatten ps))
unfolding variables_of flatten variable_names inserted
variables_ordered [] = refl
variables_ordered (p ∷ ps) =
    let l = variable_names p.0 in
    let r = variable_names p.1 in
    let ns = variable_names_in (flatten ps) in
    variables_inserted p.0 (variables p.1 (variables_of ps))
    ∙ ap (inserted l) (variables_inserted p.1 (variables_of ps) ∙ ap (inserted r) (variables_ordered ps) ∙ sym (inserted_append r ns []))
    ∙ sym (inserted_append l (r ++ ns) [])

-- ---- sorting and dropping repeats

unique_head : (a : Text) (l : List Text) → (m : List Text) × (unique (a ∷ l) ≡ a ∷ m)
unfolding unique
unique_head a [] = ([], refl)
unique_head a (b ∷ l) = go (same a b) refl (unique_head b l)
  where
    go : (t : Bool) → same a b ≡ t → (m : List Text) × (unique (b ∷ l) ≡ b ∷ m) → (m : List Text) × (unique (a ∷ b ∷ l) ≡ a ∷ m)
    go true e (m, h) = (m, unique_same a b l e ∙ h ∙ ap (λ (z : Text). z ∷ m) (sym (same_eq a b e)))
    go false e (m, h) = (unique (b ∷ l), unique_differ a b l e)

unique_insert : (x : Text) (l : List Text) → unique (insert x l) ≡ insert_once x (unique l)
unfolding unique insert insert_once
unique_insert x [] = refl
unique_insert x (a ∷ []) = go (order x a)
  where
    go : Order x a → unique (insert x (a ∷ [])) ≡ insert_once x (a ∷ [])
    go (equal p) = ap unique (insert_before x a [] (upto_equal p)) ∙ unique_same x a [] (same_of_eq p) ∙ sym (once_same x a [] p)
    go (before e f g) = ap unique (insert_before x a [] f) ∙ unique_differ x a [] e ∙ sym (once_before x a [] e f)
    go (after f g) = ap unique (insert_after x a [] f) ∙ unique_differ a x [] (other_way x a (differs x a f)) ∙ sym (once_after x a [] f)
unique_insert x (a ∷ b ∷ l) = go (order x a) (unique_head a (b ∷ l)) (unique_insert x (b ∷ l))
  where
    next : (t s : Bool) → same a b ≡ t → upto x b ≡ s → upto x a ≡ false → unique (insert x (b ∷ l)) ≡ insert_once x (unique (b ∷ l))
        → unique (a ∷ insert x (b ∷ l)) ≡ insert_once x (unique (a ∷ b ∷ l))
    next true s e k f h =
        let q : upto x b ≡ false = ap (upto x) (sym (same_eq a b e)) ∙ f in
        ap (λ (m : List Text). unique (a ∷ m)) (insert_after x b l q) ∙ unique_same a b (insert x l) e ∙ ap unique (sym (insert_after x b l q)) ∙ h ∙ ap (insert_once x) (sym (unique_same a b l e))
    next false true e k f h =
        ap (λ (m : List Text). unique (a ∷ m)) (insert_before x b l k) ∙ unique_differ a x (b ∷ l) (other_way x a (differs x a f))
        ∙ ap (λ (m : List Text). a ∷ m) (ap unique (sym (insert_before x b l k)) ∙ h)
        ∙ sym (ap (insert_once x) (unique_differ a b l e) ∙ once_after x a (unique (b ∷ l)) f)
    next false false e k f h =
        ap (λ (m : List Text). unique (a ∷ m)) (insert_after x b l k) ∙ unique_differ a b (insert x l) e
        ∙ ap (λ (m : List Text). a ∷ m) (ap unique (sym (insert_after x b l k)) ∙ h)
        ∙ sym (ap (insert_once x) (unique_differ a b l e) ∙ once_after x a (unique (b ∷ l)) f)

    go : Order x a → (m : List Text) × (unique (a ∷ b ∷ l) ≡ a ∷ m) → unique (insert x (b ∷ l)) ≡ insert_once x (unique (b ∷ l)) → unique (insert x (a ∷ b ∷ l)) ≡ insert_once x (unique (a ∷ b ∷ l))
    go (equal p) (m, h) i = ap unique (insert_before x a (b ∷ l) (upto_equal p)) ∙ unique_same x a (b ∷ l) (same_of_eq p) ∙ h ∙ sym (once_same x a m p) ∙ ap (insert_once x) (sym h)
    go (before e f g) (m, h) i = ap unique (insert_before x a (b ∷ l) f) ∙ unique_differ x a (b ∷ l) e ∙ ap (λ (k : List Text). x ∷ k) h ∙ sym (once_before x a m e f) ∙ ap (insert_once x) (sym h)
    go (after f g) (m, h) i = ap unique (insert_after x a (b ∷ l) f) ∙ next (same a b) (upto x b) refl refl f i

pub unique_sort : (ns : List Text) → unique (sort ns) ≡ ordered_once ns
unfolding sort inserted unique
unique_sort [] = refl
unique_sort (x ∷ ns) = unique_insert x (sort ns) ∙ ap (insert_once x) (unique_sort ns)
