-- The names that no sheet spells are names of variables of sort Msg, without an index, and longer than a sheet.
use Prim.Native.Nat.{ℕ, zero, suc, ◌+◌, ◌≤◌}
use native.Mathlib.Omega.{arith}
use mathlib.Core.Path.{◌≡◌, refl, ◌∙◌, ap}
use mathlib.Core.Bool.{true}
use mathlib.Core.List.{◌∷◌, ◌++◌}
use Rattle.std.specs.Prelude.{Some, None}
use lib.ListN.{length}
use Rattle.rules.specs.Bytes.{Text}
use Rattle.rules.specs.Text.{bytes}
use Rattle.rules.specs.Names.{indexed, variable_token}
use Rattle.rules.specs.declared.Sort.TheVariants.{Msg}
use Rattle.rules.specs.Sorts.{variable_sort}
use Rattle.rules.specs.Variants.{index_of}
use Rattle.laws.specs.Parts.{PartOf}
use Rattle.laws.specs.Unspelled.{zeros, unspelled, zeros_name}
use Rattle.laws.proofs.Reading.Spelled.{part_length}

pub unspelled_zeros : (n : ℕ) → unspelled n ≡ zeros_name (65536 + n)
unfolding unspelled
unspelled_zeros n = refl

-- two zeros at least, and the rest
abbrev two_zeros : ℕ → Text
two_zeros k = 120 ∷ 48 ∷ 48 ∷ (zeros k ++ bytes ":Msg")

zeros_two : (k : ℕ) → zeros_name (suc (suc k)) ≡ two_zeros k
unfolding zeros
zeros_two k = refl

pub unspelled_begins : (n : ℕ) → unspelled n ≡ 120 ∷ 48 ∷ 48 ∷ (zeros (65534 + n) ++ bytes ":Msg")
unspelled_begins n = unspelled_zeros n ∙ ap zeros_name e ∙ zeros_two (65534 + n)
  where
    e : 65536 + n ≡ suc (suc (65534 + n))
    e = omega arith

-- A variable's name of sort Msg

zeros_indexed : (k : ℕ) → indexed (zeros k ++ bytes ":Msg") ≡ true
unfolding zeros indexed
zeros_indexed zero = refl
zeros_indexed (suc k) = zeros_indexed k

two_token : (k : ℕ) → variable_token (two_zeros k) ≡ true
unfolding variable_token indexed
two_token k = zeros_indexed k

pub unspelled_token : (n : ℕ) → variable_token (unspelled n) ≡ true
unspelled_token n = ap variable_token (unspelled_begins n) ∙ two_token (65534 + n)

zeros_sort : (k : ℕ) → variable_sort (zeros k ++ bytes ":Msg") ≡ Some Msg
unfolding zeros variable_sort
zeros_sort zero = refl
zeros_sort (suc k) = zeros_sort k

two_sort : (k : ℕ) → variable_sort (two_zeros k) ≡ Some Msg
unfolding variable_sort
two_sort k = zeros_sort k

pub unspelled_sort : (n : ℕ) → variable_sort (unspelled n) ≡ Some Msg
unspelled_sort n = ap variable_sort (unspelled_begins n) ∙ two_sort (65534 + n)

-- two zeros begin no index
two_unindexed : (k : ℕ) → index_of (two_zeros k) ≡ None
unfolding index_of
two_unindexed k = refl

pub unspelled_unindexed : (n : ℕ) → index_of (unspelled n) ≡ None
unspelled_unindexed n = ap index_of (unspelled_begins n) ∙ two_unindexed (65534 + n)

-- Its length

zeros_length : (k : ℕ) → length (zeros k ++ bytes ":Msg") ≡ k + 4
unfolding zeros
zeros_length zero = refl
zeros_length (suc k) = let e = zeros_length k in omega arith

name_length : (k : ℕ) → length (zeros_name k) ≡ k + 5
name_length k = let e = zeros_length k in omega arith

pub unspelled_length : (n : ℕ) → length (unspelled n) ≡ 65536 + n + 5
unspelled_length n = ap length (unspelled_zeros n) ∙ name_length (65536 + n)

-- a name that is none of them
abbrev pub Spellable : Text → Type 0
Spellable x = (n : ℕ) → x ≡ unspelled n → ⊥

pub part_short : (s : Text) → length s ≤ 65536 → (x : Text) → PartOf s x → Spellable x
part_short s h x p n e = omega (arith, part_length s x p, unspelled_length n, ap length e)
