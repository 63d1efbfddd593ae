-- The renaming that takes each name that no sheet spells, put in place of a fresh one that is not spelled, to that fresh name, x<i>:Msg
-- from a base on, and back. It keeps every other name, so each with an index below the base.
use Prim.Native.Nat.{ℕ, suc, ◌+◌, ◌-◌, ◌<◌}
use native.Mathlib.Omega.{arith}
use mathlib.Core.Path.{◌≡◌, refl, sym, ◌∙◌, ap, ap₂}
use mathlib.Core.Bool.{Bool, true, false, cond, not, ◌&&◌, true≢false, false≢true}
use mathlib.Core.List.{[], ◌∷◌, ◌++◌, head-eq_of_cons-eq, tail-eq_of_cons-eq}
use Rattle.std.specs.Prelude.{Some, None}
use Rattle.laws.proofs.Basics.Somes.{some_injective, none_ne_some}
use lib.Dec.{leb, eqb}
use lib.ListN.{length, take, drop}
use Rattle.rules.specs.Bytes.{Text, same}
use Rattle.rules.specs.Text.{bytes}
use Rattle.rules.specs.Names.{digit, all, variable_token}
use Rattle.rules.specs.Decimal.{value_from, proper, number_up_to, decimal}
use Rattle.rules.specs.Tokens.{run_length}
use Rattle.rules.specs.declared.Sort.TheVariants.{Msg}
use Rattle.rules.specs.Sorts.{variable_sort}
use Rattle.rules.specs.Variants.{index_of, fresh_name, fresh_from}
use Rattle.laws.specs.Unspelled.{zeros, unspelled, chosen}
use Rattle.laws.proofs.Basics.Tests.{and_left, and_right, and_both, leb_true, true_leb, same_eq, same_of_eq, differ_of_ne}
use Rattle.laws.proofs.Basics.Numerals.{decimal_number, decimal_proper, decimal_value}
use Rattle.laws.proofs.Reading.TokenKinds.{no_colon}
use Rattle.laws.proofs.Basics.Spelling.{number_all}
use Rattle.laws.proofs.Variants.Targets.{fresh_tokens}
use Rattle.laws.proofs.Renaming.Renamed.{Renaming}
use Rattle.laws.proofs.Renaming.Unspelled.{unspelled_begins, unspelled_token, unspelled_sort, unspelled_unindexed, unspelled_length, Spellable}

-- The names x<i>:Msg

index_digits : (d : Text) → all digit d ≡ true → take (run_length digit (d ++ bytes ":Msg")) (d ++ bytes ":Msg") ≡ d
unfolding all run_length digit
index_digits [] h = refl
index_digits (b ∷ d) h = go (digit b) (and_left (digit b) (all digit d) h) (index_digits d (and_right (digit b) (all digit d) h))
  where
    go : (c : Bool) → c ≡ true → take (run_length digit (d ++ bytes ":Msg")) (d ++ bytes ":Msg") ≡ d
        → take (elim c [ true ↦ suc (run_length digit (d ++ bytes ":Msg")) | false ↦ 0 ]) (b ∷ (d ++ bytes ":Msg")) ≡ b ∷ d
    go true e i = ap (λ (s : Text). b ∷ s) i
    go false e i = absurd (false≢true e)

decimal_digits : (i : ℕ) → take (run_length digit (decimal i ++ bytes ":Msg")) (decimal i ++ bytes ":Msg") ≡ decimal i
decimal_digits i = index_digits (decimal i) (number_all (decimal i) (decimal_number i))

digits_sort : (d : Text) → all digit d ≡ true → variable_sort (d ++ bytes ":Msg") ≡ Some Msg
unfolding all variable_sort
digits_sort [] h = refl
digits_sort (b ∷ d) h = rw (no_colon b (and_left (digit b) (all digit d) h)) (digits_sort d (and_right (digit b) (all digit d) h))

pub fresh_sort : (i : ℕ) → variable_sort (fresh_name i) ≡ Some Msg
unfolding fresh_name variable_sort
fresh_sort i = digits_sort (decimal i) (number_all (decimal i) (decimal_number i))

-- a number has no two zeros in front
no_zeros : (d s : Text) → proper d ≡ true → d ++ bytes ":Msg" ≡ 48 ∷ 48 ∷ s → ⊥
no_zeros [] s h e = false≢true h
no_zeros (b ∷ []) s h e = let k : ◌≡◌ {A = ℕ} 58 48 = head-eq_of_cons-eq (tail-eq_of_cons-eq e) in omega arith
no_zeros (b ∷ c ∷ d) s h e =
    let k : b ≡ 48 = head-eq_of_cons-eq e in
    true≢false (sym (and_left (not (eqb b 48)) (all digit (b ∷ c ∷ d)) h) ∙ ap (λ (n : ℕ). not (eqb n 48)) k)

no_zeros_named : (i : ℕ) (s : Text) → fresh_name i ≡ 120 ∷ 48 ∷ 48 ∷ s → ⊥
unfolding fresh_name
no_zeros_named i s e = no_zeros (decimal i) s (decimal_proper i) (tail-eq_of_cons-eq e)

pub fresh_spelled : (i : ℕ) → Spellable (fresh_name i)
fresh_spelled i n e = no_zeros_named i (zeros (65534 + n) ++ bytes ":Msg") (e ∙ unspelled_begins n)

-- Which name it is

-- if it is an unspelled one
unfoldable zeros_at : Text → ℕ
zeros_at x = length x - 65541

-- the number that its digits after the first byte spell
unfoldable index_at : Text → ℕ
unfolding value_from run_length digit
index_at x = value_from 0 (take (run_length digit (drop 1 x)) (drop 1 x))

zeros_found : (n : ℕ) → zeros_at (unspelled n) ≡ n
unfolding zeros_at
zeros_found n = let e = unspelled_length n in omega arith

index_found : (i : ℕ) → index_at (fresh_name i) ≡ i
unfolding index_at fresh_name
index_found i = ap (value_from 0) (decimal_digits i) ∙ decimal_value i

abbrev choose : Bool → Bool → Text → Text → Text → Text
choose true c a b x = a
choose false true a b x = b
choose false false a b x = x

module _ (base : ℕ) (spelled : ℕ → Bool) where
  abbrev is_unspelled : Text → Bool
  is_unspelled x = same x (unspelled (zeros_at x)) && not (spelled (zeros_at x))

  abbrev is_fresh : Text → Bool
  is_fresh x = same x (fresh_name (index_at x)) && (leb base (index_at x) && not (spelled (index_at x - base)))

  unfoldable pub exchange : Text → Text
  unfolding same unspelled fresh_name zeros_at index_at
  exchange x = choose (is_unspelled x) (is_fresh x) (fresh_from base (zeros_at x)) (unspelled (index_at x - base)) x

  -- the name for each answer of the two tests
  answered : (x : Text) (b c : Bool) → is_unspelled x ≡ b → is_fresh x ≡ c
      → exchange x ≡ choose b c (fresh_from base (zeros_at x)) (unspelled (index_at x - base)) x
  unfolding exchange
  answered x b c e f = ap₂ (λ (p q : Bool). choose p q (fresh_from base (zeros_at x)) (unspelled (index_at x - base)) x) e f

  pub exchange_unspelled : (n : ℕ) → spelled n ≡ false → exchange (unspelled n) ≡ fresh_from base n
  exchange_unspelled n s =
      answered (unspelled n) true (is_fresh (unspelled n))
      (and_both (same (unspelled n) (unspelled (zeros_at (unspelled n)))) (not (spelled (zeros_at (unspelled n))))
      (same_of_eq (ap unspelled (sym e))) (ap (λ (m : ℕ). not (spelled m)) e ∙ ap not s)) refl
      ∙ ap (fresh_from base) e
    where
      e : zeros_at (unspelled n) ≡ n
      e = zeros_found n

  -- the test of a fresh name, by whether it is spelled
  fresh_tested : (n : ℕ) (b : Bool) → spelled n ≡ b → is_fresh (fresh_from base n) ≡ not b
  fresh_tested n b s =
      ap₂ ◌&&◌ (same_of_eq (ap fresh_name (sym e)))
      (ap₂ ◌&&◌ (true_leb base (index_at (fresh_from base n)) (omega (arith, e))) (ap (λ (m : ℕ). not (spelled m)) d ∙ ap not s))
    where
      e : index_at (fresh_from base n) ≡ base + n
      e = index_found (base + n)

      d : index_at (fresh_from base n) - base ≡ n
      d = omega (arith, e)

  fresh_no_zeros : (n : ℕ) → is_unspelled (fresh_from base n) ≡ false
  fresh_no_zeros n =
      ap (λ (b : Bool). b && not (spelled (zeros_at (fresh_from base n)))) (differ_of_ne (fresh_spelled (base + n) (zeros_at (fresh_from base n))))

  pub exchange_fresh : (n : ℕ) → spelled n ≡ false → exchange (fresh_from base n) ≡ unspelled n
  exchange_fresh n s =
      answered (fresh_from base n) false true (fresh_no_zeros n) (fresh_tested n false s)
      ∙ ap unspelled (omega (arith, index_found (base + n)))

  fresh_stays : (n : ℕ) → spelled n ≡ true → exchange (fresh_from base n) ≡ fresh_from base n
  fresh_stays n s = answered (fresh_from base n) false false (fresh_no_zeros n) (fresh_tested n true s)

  -- so the chosen names become the fresh ones
  pub exchange_chosen : (n : ℕ) → exchange (chosen base spelled n) ≡ fresh_from base n
  unfolding chosen
  exchange_chosen n = go (spelled n) refl
    where
      go : (b : Bool) → spelled n ≡ b → exchange (cond b (fresh_from base n) (unspelled n)) ≡ fresh_from base n
      go true e = fresh_stays n e
      go false e = exchange_unspelled n e

  data Exchanged (x : Text) : Type 0 where
    of_unspelled : (n : ℕ) → spelled n ≡ false → x ≡ unspelled n → Exchanged x
    of_fresh : (n : ℕ) → spelled n ≡ false → x ≡ fresh_from base n → Exchanged x
    other : exchange x ≡ x → Exchanged x

  not_true : (b : Bool) → not b ≡ true → b ≡ false
  not_true true e = sym e
  not_true false e = refl

  exchanged : (x : Text) → Exchanged x
  exchanged x = go (is_unspelled x) (is_fresh x) refl refl
    where
      go : (b c : Bool) → is_unspelled x ≡ b → is_fresh x ≡ c → Exchanged x
      go true c e f =
          let z = same x (unspelled (zeros_at x)) in
          let n = not (spelled (zeros_at x)) in
          of_unspelled (zeros_at x) (not_true (spelled (zeros_at x)) (and_right z n e)) (same_eq x (unspelled (zeros_at x)) (and_left z n e))
      go false true e f =
          let z = same x (fresh_name (index_at x)) in
          let l = leb base (index_at x) in
          let n = not (spelled (index_at x - base)) in
          let h = leb_true base (index_at x) (and_left l n (and_right z (l && n) f)) in
          let k : index_at x ≡ base + (index_at x - base) = omega arith in
          of_fresh (index_at x - base) (not_true (spelled (index_at x - base)) (and_right l n (and_right z (l && n) f)))
          (same_eq x (fresh_name (index_at x)) (and_left z (l && n) f) ∙ ap fresh_name k)
      go false false e f = other (answered x false false e f)

  -- what both names have in common is kept
  kept : {A : Type 0} (f : Text → A) (a : A) → ((n : ℕ) → f (unspelled n) ≡ a) → ((n : ℕ) → f (fresh_from base n) ≡ a) → (x : Text) → f (exchange x) ≡ f x
  kept f a u v x = go (exchanged x)
    where
      go : Exchanged x → f (exchange x) ≡ f x
      go (of_unspelled n s e) = ap f (ap exchange e ∙ exchange_unspelled n s) ∙ v n ∙ sym (ap f e ∙ u n)
      go (of_fresh n s e) = ap f (ap exchange e ∙ exchange_fresh n s) ∙ u n ∙ sym (ap f e ∙ v n)
      go (other e) = ap f e

  pub exchanging : Renaming exchange
  exchanging = record {
    twice = λ x. twice x (exchanged x);
    sort_kept = kept variable_sort (Some Msg) unspelled_sort (λ n. fresh_sort (base + n));
    token_kept = kept variable_token true unspelled_token (fresh_tokens base);
  }
    where
      twice : (x : Text) → Exchanged x → exchange (exchange x) ≡ x
      twice x (of_unspelled n s e) = ap exchange (ap exchange e ∙ exchange_unspelled n s) ∙ exchange_fresh n s ∙ sym e
      twice x (of_fresh n s e) = ap exchange (ap exchange e ∙ exchange_fresh n s) ∙ exchange_unspelled n s ∙ sym e
      twice x (other e) = ap exchange e ∙ e

  -- Names that stay

  -- a name that some sheet may spell, and no fresh one that is not spelled
  pub spelled_stays : (x : Text) → Spellable x → ((n : ℕ) → x ≡ fresh_from base n → spelled n ≡ true) → exchange x ≡ x
  spelled_stays x h k = go (exchanged x)
    where
      go : Exchanged x → exchange x ≡ x
      go (of_unspelled n s e) = absurd (h n e)
      go (of_fresh n s e) = absurd (true≢false (sym (k n e) ∙ s))
      go (other e) = e

  read_index : (j i : ℕ) → index_of (fresh_name j) ≡ Some i → i ≡ j
  unfolding index_of fresh_name number_up_to
  read_index j i e = go (proper (decimal j) && leb (value_from 0 (decimal j)) 9223372036854775807) (sym (ap (number_up_to 9223372036854775807) (decimal_digits j)) ∙ e)
    where
      go : (b : Bool) → cond b (Some (value_from 0 (decimal j))) None ≡ Some i → i ≡ j
      go true k = sym (some_injective (value_from 0 (decimal j)) i k) ∙ decimal_value j
      go false k = absurd (none_ne_some i k)

  -- a name with an index below the base
  pub below_stays : (x : Text) (i : ℕ) → index_of x ≡ Some i → i < base → exchange x ≡ x
  below_stays x i f l = go (exchanged x)
    where
      go : Exchanged x → exchange x ≡ x
      go (of_unspelled n s e) = absurd (none_ne_some i (sym (unspelled_unindexed n) ∙ ap index_of (sym e) ∙ f))
      go (of_fresh n s e) = absurd (let k = read_index (base + n) i (ap index_of (sym e) ∙ f) in omega arith)
      go (other e) = e
