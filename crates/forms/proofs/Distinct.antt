-- Texts of which none stands twice: sorted, they are those of which none stands next to itself.
use mathlib.Core.Path.{◌≡◌, refl, ap, ap₂, sym, ◌∙◌}
use mathlib.Core.Bool.{Bool, true, false, cond, not, ◌&&◌, ◌||◌, true≢false}
use mathlib.Core.List.{List, [], ◌∷◌, Permᴰ}
use Rattle.rules.specs.Bytes.{Text, same, upto, insert, sort}
use Rattle.rules.specs.Text.{is_one_of}
use Rattle.rules.specs.Sheet.{Entry, distinct_keys}
use Rattle.text.proofs.Sameness.{same_swap}
use Rattle.laws.proofs.Basics.Tests.{same_eq, same_of_eq, neither}
use Rattle.laws.proofs.Basics.Order.{upto_other, upto_one, upto_trans, sort_perm}
use Rattle.forms.specs.Members.{keys_of, distinct, apart}

-- ---- in another order

or_swap : (p q r : Bool) → p || (q || r) ≡ q || (p || r)
or_swap true true r = refl
or_swap true false r = refl
or_swap false true r = refl
or_swap false false r = refl

one_of_perm : {l m : List Text} → Permᴰ l m → (b : Text) → is_one_of l b ≡ is_one_of m b
unfolding is_one_of
one_of_perm Permᴰ.nil b = refl
one_of_perm (Permᴰ.cons e p) b = ap₂ (λ (x : Text) (r : Bool). same b x || r) e (one_of_perm p b)
one_of_perm (Permᴰ.swap {a = x} {b = y} {l = l} e f) b =
    or_swap (same b x) (same b y) (is_one_of l b) ∙ ap₂ (λ (z w : Text). same b z || (same b w || is_one_of l b)) f e
one_of_perm (Permᴰ.trans p q) b = one_of_perm p b ∙ one_of_perm q b

swaps : (p q r d : Bool) → not (p || q) && (not r && d) ≡ not (p || r) && (not q && d)
swaps true q r d = refl
swaps false true true d = refl
swaps false true false d = refl
swaps false false true d = refl
swaps false false false d = refl

distinct_perm : {l m : List Text} → Permᴰ l m → distinct l ≡ distinct m
unfolding distinct is_one_of
distinct_perm Permᴰ.nil = refl
distinct_perm (Permᴰ.cons {b = y} {l₁ = l} e p) = ap₂ (λ (r d : Bool). not r && d) (ap (is_one_of l) e ∙ one_of_perm p y) (distinct_perm p)
distinct_perm (Permᴰ.swap {a = x} {b = y} {l = l} e f) =
    swaps (same x y) (is_one_of l x) (is_one_of l y) (distinct l)
    ∙ ap (λ (r : Bool). not (r || is_one_of l y) && (not (is_one_of l x) && distinct l)) (same_swap x y)
    ∙ ap₂ (λ (z w : Text). distinct (z ∷ w ∷ l)) f e
distinct_perm (Permᴰ.trans p q) = distinct_perm p ∙ distinct_perm q

-- ---- sorted lists: each text is up to the next

data Sorted : List Text → Type 0 where
  no_text : Sorted []
  one : {a : Text} → Sorted (a ∷ [])
  next : {a b : Text} {l : List Text} → upto a b ≡ true → Sorted (b ∷ l) → Sorted (a ∷ b ∷ l)

insert_sorted : (a : Text) {l : List Text} → Sorted l → Sorted (insert a l)
unfolding insert
insert_sorted a no_text = one
insert_sorted a (one {a = b}) = go (upto a b) refl
  where
    go : (s : Bool) → upto a b ≡ s → Sorted (cond s (a ∷ b ∷ []) (b ∷ a ∷ []))
    go true e = next e one
    go false e = next (upto_other a b e) one
insert_sorted a (next {a = b} {b = c} {l = l} h s) = go (upto a b) refl (upto a c) (insert_sorted a s)
  where
    go : (p : Bool) → upto a b ≡ p → (q : Bool) → Sorted (cond q (a ∷ c ∷ l) (c ∷ insert a l))
        → Sorted (cond p (a ∷ b ∷ c ∷ l) (b ∷ cond q (a ∷ c ∷ l) (c ∷ insert a l)))
    go true e q t = next e (next h s)
    go false e true t = next (upto_other a b e) t
    go false e false t = next h t

sort_sorted : (l : List Text) → Sorted (sort l)
unfolding sort
sort_sorted [] = no_text
sort_sorted (a ∷ l) = insert_sorted a (sort_sorted l)

-- a text before the first is none of them
before_all : (a b : Text) {l : List Text} → upto a b ≡ true → same a b ≡ false → Sorted (b ∷ l) → is_one_of (b ∷ l) a ≡ false
unfolding is_one_of
before_all a b e f one = neither (same a b) false f refl
before_all a b e f (next {b = c} {l = l} g s) = neither (same a b) (is_one_of (c ∷ l) a) f (before_all a c (upto_trans a b c e g) (other (same a c) refl) s)
  where
    other : (t : Bool) → same a c ≡ t → same a c ≡ false
    other false h = h
    other true h = absurd (true≢false (sym (same_of_eq (upto_one a b e (ap (upto b) (same_eq a c h) ∙ g))) ∙ f))

apart_sorted : {l : List Text} → Sorted l → apart l ≡ distinct l
unfolding apart distinct
apart_sorted no_text = refl
apart_sorted one = unfold is_one_of in refl
apart_sorted (next {a = a} {b = b} {l = l} e s) = go (same a b) refl (apart_sorted s)
  where
    go : (t : Bool) → same a b ≡ t → apart (b ∷ l) ≡ distinct (b ∷ l) → not (same a b) && apart (b ∷ l) ≡ not (is_one_of (b ∷ l) a) && distinct (b ∷ l)
    go true f h = ap (λ (p : Bool). not p && apart (b ∷ l)) f ∙ sym (ap (λ (p : Bool). not p && distinct (b ∷ l)) (unfold is_one_of in ap (λ (p : Bool). p || is_one_of l a) f))
    go false f h = ap₂ (λ (p q : Bool). not p && q) (f ∙ sym (before_all a b e f s)) h

pub apart_sort : (l : List Text) → apart (sort l) ≡ distinct l
apart_sort l = apart_sorted (sort_sorted l) ∙ distinct_perm (sort_perm l)

-- ---- the keys of a member

-- no text is one of ks
none_in : List Text → List Text → Bool
none_in ks [] = true
none_in ks (x ∷ xs) = not (is_one_of ks x) && none_in ks xs

none_in_nil : (xs : List Text) → none_in [] xs ≡ true
unfolding none_in is_one_of
none_in_nil [] = refl
none_in_nil (x ∷ xs) = none_in_nil xs

regroup : (p q r s : Bool) → not (p || q) && (r && not s) ≡ (not q && r) && not (p || s)
regroup true true true s = refl
regroup true true false s = refl
regroup true false true s = refl
regroup true false false s = refl
regroup false true r s = refl
regroup false false r s = refl

none_in_more : (e : Text) (ks xs : List Text) → none_in (e ∷ ks) xs ≡ none_in ks xs && not (is_one_of xs e)
unfolding none_in is_one_of
none_in_more e ks [] = refl
none_in_more e ks (x ∷ xs) =
    ap₂ (λ (p q : Bool). not (p || is_one_of ks x) && q) (same_swap x e) (none_in_more e ks xs)
    ∙ regroup (same e x) (is_one_of ks x) (none_in ks xs) (is_one_of xs e)

moves : (p q r s : Bool) → p && ((q && r) && s) ≡ (p && q) && (r && s)
moves true true r s = refl
moves true false r s = refl
moves false q r s = refl

distinct_with : (es : List Entry) (ks : List Text) → distinct_keys es ks ≡ none_in ks (keys_of es) && distinct (keys_of es)
unfolding distinct_keys none_in distinct
distinct_with [] ks = refl
distinct_with (e ∷ es) ks =
    ap (λ (q : Bool). not (is_one_of ks e.0) && q) (distinct_with es (e.0 ∷ ks) ∙ ap (λ (p : Bool). p && distinct (keys_of es)) (none_in_more e.0 ks (keys_of es)))
    ∙ moves (not (is_one_of ks e.0)) (none_in ks (keys_of es)) (not (is_one_of (keys_of es) e.0)) (distinct (keys_of es))

pub distinct_keys_are : (es : List Entry) → distinct_keys es [] ≡ distinct (keys_of es)
distinct_keys_are es = distinct_with es [] ∙ ap (λ (p : Bool). p && distinct (keys_of es)) (none_in_nil (keys_of es))
