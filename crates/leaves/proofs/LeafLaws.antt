-- The kinds of leaves, and the names of atoms.
use Prim.Native.Nat.{ℕ}
use mathlib.Core.Path.{◌≡◌, refl, sym}
use mathlib.Core.List.{[], ◌∷◌}
use mathlib.Core.Logic.{inl, inr}
use types.Run.{OneOf}
use mathlib.Core.Bool.{Bool, true, false, cond}
use lib.ListN.{get_or}
use borrow.Author.Tests.{ne_eqb}
use Rattle.std.specs.Prelude.{Some, None}
use Rattle.rules.specs.Bytes.{Text}
use Rattle.rules.specs.Names.{letter, letter_name}
use Rattle.leaves.specs.Leaves.{name_letter}
use Rattle.laws.proofs.Basics.Somes.{none_ne_some, some_injective}

-- no letter of atoms
pub other_letter : (b : ℕ) → (OneOf (99 ∷ 102 ∷ 110 ∷ 112 ∷ 116 ∷ []) b → ⊥) → false ≡ letter b
unfolding letter
other_letter b h =
    rw
    (ne_eqb b 112 (λ e. h (inr (inr (inr (inl e))))), ne_eqb b 102 (λ e. h (inr (inl e))), ne_eqb b 99 (λ e. h (inl e)), ne_eqb b 116 (λ e. h (inr (inr (inr (inr e))))), ne_eqb b 110 (λ e. h (inr (inr (inl e)))))

-- a name that is a letter, and one that is none
pub letter_found : (n : Text) (b : ℕ) → name_letter n ≡ Some b → (letter_name n ≡ true) × (get_or n 0 0 ≡ b)
letter_found n b = go (letter_name n)
  where
    go : (t : Bool) → cond t (Some (get_or n 0 0)) None ≡ Some b → (t ≡ true) × (get_or n 0 0 ≡ b)
    go true e = (refl, some_injective (get_or n 0 0) b e)
    go false e = absurd (none_ne_some b e)

pub no_letter_found : (n : Text) → name_letter n ≡ None → letter_name n ≡ false
no_letter_found n = go (letter_name n)
  where
    go : (t : Bool) → cond t (Some (get_or n 0 0)) None ≡ None → t ≡ false
    go true e = absurd (none_ne_some (get_or n 0 0) (sym e))
    go false e = refl
