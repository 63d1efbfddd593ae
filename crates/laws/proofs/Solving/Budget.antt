-- Substitution with a falling budget gives the instance exactly where its nodes fit the budget, also through all sides of a
-- list of pairs.
use mathlib.Core.Path.{◌≡◌, refl, ap, ap₂, sym, ◌∙◌, fun_ext}
use mathlib.Core.Bool.{Bool, true, false}
use mathlib.Core.List.{List, [], ◌∷◌}
use Rattle.std.specs.Prelude.{Option, Some, None}
use Prim.Native.Nat.{ℕ, ◌+◌, ◌-◌, ◌≤◌}
use native.Mathlib.Omega.{arith}
use lib.Dec.{leb}
use Rattle.rules.specs.Tree.{Tree, variable, atom, apply, Trees, none, more, size, sizes}
use Rattle.rules.specs.Substitution.{substitute, substitutes, Binding, Pair, lookup, instantiate, instantiate_pairs, size_pairs, flatten, charge, paid, and_then, substitute_within, substitutes_within}
use Rattle.laws.proofs.Basics.Tests.{leb_true, leb_false, true_leb, false_leb}

-- to pay twice is to pay the sum
paid_twice : {A B C : Type 0} (m n k : ℕ) (a : A) (b : B) (f : A → B → C)
    → and_then (paid m k a) (λ x j. and_then (paid n j b) (λ y i. Some (f x y, i))) ≡ paid (m + n) k (f a b)
paid_twice m n k a b f = go (leb m k) refl
  where
    refused : leb (m + n) k ≡ false → None ≡ paid (m + n) k (f a b)
    refused s = sym (ap (λ (c : Bool). charge c (m + n) k (f a b)) s)

    second : m ≤ k → (c : Bool) → leb n (k - m) ≡ c → and_then (charge c n (k - m) b) (λ y i. Some (f a y, i)) ≡ paid (m + n) k (f a b)
    second h true e =
        let l = leb_true n (k - m) e in
        let r : k - m - n ≡ k - (m + n) = omega arith in
        let s : leb (m + n) k ≡ true = true_leb (m + n) k (omega arith) in
        ap (λ i. Some (f a b, i)) r ∙ sym (ap (λ (c : Bool). charge c (m + n) k (f a b)) s)
    second h false e = let l = leb_false n (k - m) e in refused (false_leb (m + n) k (omega arith))

    go : (c : Bool) → leb m k ≡ c → and_then (charge c m k a) (λ x j. and_then (paid n j b) (λ y i. Some (f x y, i))) ≡ paid (m + n) k (f a b)
    go true e = second (leb_true m k e) (leb n (k - m)) refl
    go false e = let l = leb_false m k e in refused (false_leb (m + n) k (omega arith))

paid_nothing : {A : Type 0} (k : ℕ) (a : A) → Some (a, k) ≡ paid 0 k a
paid_nothing k a = ap (λ i. Some (a, i)) (omega arith) ∙ sym (ap (λ (c : Bool). charge c 0 k a) (true_leb 0 k (omega arith)))

mutual
  unfolding substitute_within substitute size

  pub substitute_within_is : (bs : List Binding) (t : Tree) (k : ℕ) → substitute_within bs t k ≡ paid (size (instantiate bs t)) k (instantiate bs t)
  substitute_within_is bs (variable x) k = refl
  substitute_within_is bs (atom c d) k = refl
  substitute_within_is bs (apply f ts) k =
      ap (λ (F : ℕ → Option (Trees × ℕ)). and_then (paid 1 k ts) (λ us j. and_then (F j) (λ vs i. Some (apply f vs, i)))) (fun_ext (λ j. substitutes_within_are bs ts j))
      ∙ paid_twice 1 (sizes (substitutes (lookup bs) ts)) k ts (substitutes (lookup bs) ts) (λ us vs. apply f vs)

  pub substitutes_within_are : (bs : List Binding) (ts : Trees) (k : ℕ) → substitutes_within bs ts k ≡ paid (sizes (substitutes (lookup bs) ts)) k (substitutes (lookup bs) ts)
  substitutes_within_are bs none k = paid_nothing k none
  substitutes_within_are bs (more t ts) k =
      ap₂ (λ (o : Option (Tree × ℕ)) (F : ℕ → Option (Trees × ℕ)). and_then o (λ u j. and_then (F j) (λ us i. Some (more u us, i)))) (substitute_within_is bs t k) (fun_ext (λ j. substitutes_within_are bs ts j))
      ∙ paid_twice (size (instantiate bs t)) (sizes (substitutes (lookup bs) ts)) k (instantiate bs t) (substitutes (lookup bs) ts) more

pub flatten_instance : (bs : List Binding) (ps : List Pair) → substitutes (lookup bs) (flatten ps) ≡ flatten (instantiate_pairs bs ps)
unfolding flatten substitute instantiate_pairs
flatten_instance bs [] = refl
flatten_instance bs (p ∷ ps) = ap (λ (ts : Trees). more (instantiate bs p.0) (more (instantiate bs p.1) ts)) (flatten_instance bs ps)

pub flatten_size : (ps : List Pair) → sizes (flatten ps) ≡ size_pairs ps
unfolding flatten size size_pairs
flatten_size [] = refl
flatten_size (p ∷ ps) = let h = flatten_size ps in omega arith

pub substitutes_within_pairs : (bs : List Binding) (ps : List Pair) (k : ℕ) → substitutes_within bs (flatten ps) k ≡ paid (size_pairs (instantiate_pairs bs ps)) k (flatten (instantiate_pairs bs ps))
substitutes_within_pairs bs ps k =
    substitutes_within_are bs (flatten ps) k ∙ ap (λ (ts : Trees). paid (sizes ts) k ts) (flatten_instance bs ps)
    ∙ ap (λ (n : ℕ). paid n k (flatten (instantiate_pairs bs ps))) (flatten_size (instantiate_pairs bs ps))
