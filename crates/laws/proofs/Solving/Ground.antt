-- A tree is ground exactly where no variable occurs in it.
use mathlib.Core.Path.{◌≡◌, refl, sym, ◌∙◌}
use mathlib.Core.Bool.{true, false, true≢false}
use mathlib.Core.Logic.{◌↔◌}
use Rattle.rules.specs.Bytes.{Text}
use Rattle.rules.specs.Tree.{Tree, variable, atom, apply, Trees, none, more, occurs, occurs_in, ground, grounds}
use Rattle.laws.proofs.Basics.Tests.{same_self, and_both, neither_left, neither_right}
use Rattle.laws.proofs.Solving.Substituting.{ground_free, free_occurs}

mutual
  unfolding ground occurs

  unoccupied : (t : Tree) → ((x : Text) → occurs x t ≡ false) → ground t ≡ true
  unoccupied (variable y) h = absurd (true≢false (sym (same_self y) ∙ h y))
  unoccupied (atom c d) h = refl
  unoccupied (apply f ts) h = unoccupied_in ts h

  unoccupied_in : (ts : Trees) → ((x : Text) → occurs_in x ts ≡ false) → grounds ts ≡ true
  unoccupied_in none h = refl
  unoccupied_in (more t ts) h =
      and_both (ground t) (grounds ts)
      (unoccupied t (λ x. neither_left (occurs x t) (occurs_in x ts) (h x)))
      (unoccupied_in ts (λ x. neither_right (occurs x t) (occurs_in x ts) (h x)))

pub ground_is : (t : Tree) → (ground t ≡ true) ↔ ((x : Text) → occurs x t ≡ false)
ground_is t = (λ e x. free_occurs x t (ground_free x t e), unoccupied t)
