-- The schemes made one at a time are the list of schemes.
use Prim.Native.Nat.{ℕ, zero, suc, ◌+◌, ◌*◌, ◌/◌, ◌%◌, ◌<◌}
use native.Mathlib.Nat.{suc-mul, add_assoc, add_comm, zero-mul, zero-add, mod-lt, div-add-mod', div-lt_iff_lt-mul}
use native.Mathlib.Omega.{arith}
use mathlib.Core.Path.{◌≡◌, refl, sym, ◌∙◌, ap, subst}
use mathlib.Core.List.{List, [], ◌∷◌, ◌++◌, map, flat_map}
use Rattle.std.specs.Prelude.{slice_get, Some}
use Rattle.laws.proofs.Basics.Somes.{none_ne_some, some_injective}
use lib.ListN.{length, length-map}
use Rattle.std.proofs.lemmas.Option.{slice_get-get_or}
use Rattle.rules.specs.Bytes.{Text}
use Rattle.rules.specs.Tree.{Tree, variable, atom, apply, Trees, none, more}
use Rattle.rules.specs.Variants.{root_schemes, schemes_from, joined, join_first, scheme_count, scheme_counts}
use Rattle.laws.specs.Schemes.{root_count, root_at, scheme_at, joined_at, listing}
use Rattle.laws.proofs.Variants.SchemeCount.{Each, each, children_kept, roots_count, schemes_counted, joined_counted}

-- Elements of lists

module _ {A : Type 0} where
  at_left : (l r : List A) (i : ℕ) (a : A) → slice_get l i ≡ Some a → slice_get (l ++ r) i ≡ Some a
  at_left [] r i a h = absurd (none_ne_some a h)
  at_left (b ∷ l) r zero a h = h
  at_left (b ∷ l) r (suc i) a h = at_left l r i a h

  at_right : (l r : List A) (i : ℕ) → slice_get (l ++ r) (length l + i) ≡ slice_get r i
  at_right [] r i = ap (slice_get r) (zero-add i)
  at_right (b ∷ l) r i = ap (slice_get (b ∷ (l ++ r))) (let e : suc (length l) + i ≡ suc (length l + i) = omega arith in e) ∙ at_right l r i

  each_at : (m : A → ℕ) (k : ℕ) (l : List A) → Each m k l → (i : ℕ) (a : A) → slice_get l i ≡ Some a → m a ≡ k
  each_at m k [] e i a h = absurd (none_ne_some a h)
  each_at m k (b ∷ l) e zero a h = ap m (sym (some_injective b a h)) ∙ e.0
  each_at m k (b ∷ l) e (suc i) a h = each_at m k l e.1 i a h

  -- a list is what gives its elements
  listed : (l : List A) (f : ℕ → A) → ((i : ℕ) → i < length l → slice_get l i ≡ Some (f i)) → listing (length l) f ≡ l
  unfolding listing
  listed [] f h = refl
  listed (a ∷ l) f h =
      let e = some_injective a (f 0) (h 0 (omega arith)) in
      ap (λ (b : A). b ∷ listing (length l) (λ i. f (suc i))) (sym e)
      ∙ ap (λ (r : List A). a ∷ r) (listed l (λ i. f (suc i)) (λ i k. h (suc i) (omega arith)))

module _ {A B : Type 0} where
  at_map : (f : A → B) (l : List A) (i : ℕ) (a : A) → slice_get l i ≡ Some a → slice_get (map f l) i ≡ Some (f a)
  at_map f [] i a h = absurd (none_ne_some a h)
  at_map f (b ∷ l) zero a h = ap (λ (c : A). Some (f c)) (some_injective b a h)
  at_map f (b ∷ l) (suc i) a h = at_map f l i a h

  -- lists of k elements each, one after the other: the r-th of the q-th
  at_flat : (f : A → List B) (k : ℕ) (l : List A) → Each (λ a. length (f a)) k l → (q r : ℕ) (a : A) (b : B) → slice_get l q ≡ Some a → slice_get (f a) r ≡ Some b
      → slice_get (flat_map f l) (q * k + r) ≡ Some b
  unfolding flat_map
  at_flat f k [] e q r a b g h = absurd (none_ne_some a g)
  at_flat f k (c ∷ l) e zero r a b g h =
      ap (slice_get (f c ++ flat_map f l)) (rw (zero-mul k) (zero-add r))
      ∙ at_left (f c) (flat_map f l) r b (subst (λ (x : A). slice_get (f x) r ≡ Some b) (sym (some_injective c a g)) h)
  at_flat f k (c ∷ l) e (suc q) r a b g h =
      let m : suc q * k + r ≡ length (f c) + (q * k + r) = (rw (suc-mul q k, e.0, add_comm (q * k) k) (add_assoc k (q * k) r)) in
      ap (slice_get (f c ++ flat_map f l)) m ∙ at_right (f c) (flat_map f l) (q * k + r) ∙ at_flat f k l e.1 q r a b g h

  -- the same by dividing
  at_divided : (f : A → List B) (k : ℕ) (l : List A) → Each (λ a. length (f a)) k l → (i : ℕ) (a : A) (b : B) → slice_get l (i / k) ≡ Some a
      → slice_get (f a) (i % k) ≡ Some b → slice_get (flat_map f l) i ≡ Some b
  at_divided f k l e i a b g h = subst (λ (j : ℕ). slice_get (flat_map f l) j ≡ Some b) (div-add-mod' i k) (at_flat f k l e (i / k) (i % k) a b g h)

-- an index below a product is divided into indices below its factors
pub right_positive : (i m k : ℕ) → i < m * k → 0 < k
right_positive i m zero h = absurd (omega arith)
right_positive i m (suc k) h = omega arith

quotient : (i m k : ℕ) → i < m * k → i / k < m
quotient i m k h = (div-lt_iff_lt-mul (right_positive i m k h)).1 h

-- The schemes, by the names of their fresh variables

module _ (name : ℕ → Text) where
  mutual
    unfolding schemes_from scheme_count scheme_at root_count root_at

    pub scheme_found : (t : Tree) (n i : ℕ) → i < scheme_count t → slice_get (schemes_from name t n) i ≡ Some (scheme_at name t n i)
    scheme_found (variable x) n zero h = refl
    scheme_found (variable x) n (suc i) h = absurd (omega arith)
    scheme_found (atom c d) n zero h = refl
    scheme_found (atom c d) n (suc i) h = absurd (omega arith)
    scheme_found (apply f ts) n i h =
        let k = root_count f ts in
        let j = joined_at name ts n (i / k) in
        let q = joined_found ts n (i / k) (quotient i (scheme_counts ts) k h) in
        let e = roots_count name f ts (joined name ts n) (children_kept name ts n) in
        let l = each_at (λ x. length (root_schemes name f x)) k (joined name ts n) e (i / k) j q in
        let p : i % k < length (root_schemes name f j) = subst (λ (m : ℕ). i % k < m) (sym l) (mod-lt i (right_positive i (scheme_counts ts) k h)) in
        at_divided (root_schemes name f) k (joined name ts n) e i j (scheme_at name (apply f ts) n i) q (slice_get-get_or (root_schemes name f j) (i % k) _ p)

    joined_found : (ts : Trees) (n i : ℕ) → i < scheme_counts ts → slice_get (joined name ts n) i ≡ Some (joined_at name ts n i)
    joined_found none n zero h = refl
    joined_found none n (suc i) h = absurd (omega arith)
    joined_found (more t ts) n i h =
        let k = scheme_counts ts in
        let s = scheme_at name t n (i / k) in
        let p = right_positive i (scheme_count t) k h in
        at_divided (λ r. map (join_first r) (joined name ts r.next)) k (schemes_from name t n)
        (each (λ r. length (map (join_first r) (joined name ts r.next))) k (λ r. length-map (joined name ts r.next) (join_first r) ∙ joined_counted name ts r.next) (schemes_from name t n))
        i s (joined_at name (more t ts) n i) (scheme_found t n (i / k) (quotient i (scheme_count t) k h))
        (at_map (join_first s) (joined name ts s.next) (i % k) (joined_at name ts s.next (i % k)) (joined_found ts s.next (i % k) (mod-lt i p)))

  -- made one at a time, the schemes of a term are its schemes in order
  pub schemes_listed : (t : Tree) (n : ℕ) → listing (scheme_count t) (scheme_at name t n) ≡ schemes_from name t n
  schemes_listed t n =
      ap (λ (k : ℕ). listing k (scheme_at name t n)) (sym (schemes_counted name t n))
      ∙ listed (schemes_from name t n) (scheme_at name t n) (λ i h. scheme_found t n i (subst (λ (k : ℕ). i < k) (schemes_counted name t n) h))
