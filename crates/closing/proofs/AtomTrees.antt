-- Atoms as trees: what is made of a list's only tree, the fixed names, the letters.
use Prim.Native.Nat.{ℕ, zero, suc, ◌-◌, ◌<◌, ◌≤◌}
use native.Mathlib.Omega.{arith}
use mathlib.Core.Path.{◌≡◌, refl, sym, ap, ◌∙◌}
use mathlib.Core.List.{[], ◌∷◌}
use Rattle.std.specs.Prelude.{Option, Some, None}
use Rattle.laws.proofs.Basics.Somes.{none_ne_some}
use mathlib.Core.Bool.{true, false, not, false≢true}
use lib.ListN.{get_or}
use borrow.Author.Tests.{not-true}
use native.Mathlib.Decide.{dec_lt}
use mathlib.Core.Logic.{⊎_elim}
use types.Run.{OneOf}
use Rattle.rules.specs.Bytes.{Text}
use Rattle.rules.specs.Maybe.{◌>>=◌, guard}
use Rattle.rules.specs.Names.{digit, all, letter_name}
use Rattle.rules.specs.Tree.{Tree, atom, Trees, none, more}
use Rattle.rules.specs.Reading.{single, constant_name, atom_of}
use Rattle.laws.specs.Unspelled.{unspelled}
use Rattle.tree.specs.Cells.{fixed_name}
use Rattle.tree.proofs.Bounded.{every_below, below_holds}
use Rattle.tree.proofs.FixedNames.{fixed_unspelled}
use Rattle.closing.specs.Machine.{back}
use Rattle.closing.specs.Closing.{NoTree}
use Rattle.leaves.proofs.LeafLaws.{other_letter}

-- the order of the trees does not make one of several
two_back : (ts : Trees) (t u : Tree) (us : Trees) → single (back ts (more t (more u us))) ≡ None
unfolding back
two_back none t u us = refl
two_back (more v ts) t u us = two_back ts v t (more u us)

single_back : (ts : Trees) → single (back ts none) ≡ single ts
unfolding back
single_back none = refl
single_back (more t none) = refl
single_back (more t (more u us)) = two_back us u t none

-- what an atom is made of
abbrev pub around : Text → Option Text → Option Tree
around n o = o >>= λ d. guard (all digit d) >>= λ _. Some (atom (get_or n 0 0) d)

pub atom_back : (n : Text) (ts : Trees) → atom_of n (back ts none) ≡ atom_of n ts
unfolding atom_of
atom_back n ts = ap (λ (o : Option Tree). o >>= λ t. around n (constant_name t)) (single_back ts)

pub no_atom : (n : Text) (ts : Trees) → atom_of n ts ≡ None → NoTree (atom_of n (back ts none))
no_atom n ts e t h = absurd (none_ne_some t (sym (atom_back n ts ∙ e) ∙ h))

few_digits : (a : ℕ) → 0 < a → a < 7 → all digit (fixed_name a) ≡ false
unfolding all digit every_below
few_digits zero p q = absurd (omega arith)
few_digits (suc a) p q = not-true (all digit (fixed_name (suc a))) (below_holds 6 (λ m. not (all digit (fixed_name (suc m)))) refl a (omega arith))

unspelled_digits : (n : ℕ) → all digit (unspelled n) ≡ false
unfolding all digit unspelled
unspelled_digits n = refl

pub no_digits : (a : ℕ) → 0 < a → all digit (fixed_name a) ≡ false
no_digits a p = elim (dec_lt a 7) [
  | yes q ↦ few_digits a p q
  | no q ↦ ap (all digit) (fixed_unspelled a (omega arith)) ∙ unspelled_digits (a - 7)
]

-- the letters of atoms
pub letter_only : (n : Text) → letter_name n ≡ true → (n ≡ get_or n 0 0 ∷ []) × (7 ≤ get_or n 0 0)
unfolding letter_name
letter_only [] h = absurd (false≢true h)
letter_only (b ∷ []) h = (refl, elim (dec_lt b 7) [ no q ↦ omega arith | yes q ↦ absurd (false≢true (other_letter b (low q) ∙ h)) ])
  where
    low : b < 7 → OneOf (99 ∷ 102 ∷ 110 ∷ 112 ∷ 116 ∷ []) b → ⊥
    low q o = ⊎_elim (λ e. omega arith) (⊎_elim (λ e. omega arith) (⊎_elim (λ e. omega arith) (⊎_elim (λ e. omega arith) (λ e. omega arith)))) o
letter_only (b ∷ c ∷ n) h = absurd (false≢true h)
