-- Cancelling of the cells of two sums.
use Prim.Native.Nat.{ℕ, suc, ◌<◌, ◌≤◌}
use mathlib.Core.Path.{◌≡◌, refl, sym, ap, ◌∙◌}
use mathlib.Core.Bool.{Bool, true, false, not, ◌&&◌}
use mathlib.Core.List.{List, [], ◌∷◌}
use Rattle.std.specs.Prelude.{Some, None}
use lib.Dec.{eqb}
use lib.ListN.{length, get_or, set}
use lib.Seq.{slice}
use native.Mathlib.Omega.{arith}
use borrow.Author.Tests.{eqb-true, eqb-false}
use Rattle.rules.specs.Tree.{Tree}
use Rattle.rules.specs.Solving.{keep, remove_at, remove}
use Rattle.tree.specs.Cells.{tree_at}
use Rattle.sums.specs.Sums.{remaining, index}
use Rattle.sums.proofs.Summanding.{remaining_some, remaining_zero}

-- ---- removing by the place of the first that passes

module _ (f : Tree → Tree → Bool) (t : Tree) (s w : List ℕ) where
  abbrev pub at : List ℕ → ℕ
  at cs = index (f t) s w cs

  pub index_skip : (c : ℕ) (cs : List ℕ) → not (eqb c 0) && f t (tree_at s w c) ≡ false → at (c ∷ cs) ≡ suc (at cs)
  unfolding index
  index_skip c cs e = rw e

  pub index_hit : (c : ℕ) (cs : List ℕ) → not (eqb c 0) && f t (tree_at s w c) ≡ true → at (c ∷ cs) ≡ 0
  unfolding index
  index_hit c cs e = rw e

  remove_zero : (c : ℕ) (cs : List ℕ) → eqb c 0 ≡ true → remove f t (remaining s w (c ∷ cs)) ≡ remove f t (remaining s w cs)
  remove_zero c cs e = ap (remove f t) (remaining_zero s w c cs (eqb-true c 0 e))

  remove_some : (c : ℕ) (cs : List ℕ) (d : Bool) → eqb c 0 ≡ false → f t (tree_at s w c) ≡ d
      → remove f t (remaining s w (c ∷ cs)) ≡ remove_at d (tree_at s w c) (remaining s w cs) (remove f t (remaining s w cs))
  unfolding remove
  remove_some c cs d e g =
      let z = eqb-false c 0 e in
      ap (remove f t) (remaining_some s w c cs (omega arith)) ∙ ap (λ (b : Bool). remove_at b (tree_at s w c) (remaining s w cs) (remove f t (remaining s w cs))) g

  found_at : (c : ℕ) (cs : List ℕ) (b : Bool) → eqb c 0 ≡ b → (d : Bool) → f t (tree_at s w c) ≡ d → at (c ∷ cs) < suc (length cs)
      → (at cs < length cs → remove f t (remaining s w cs) ≡ Some (remaining s w (set cs (at cs) 0))) → remove f t (remaining s w (c ∷ cs)) ≡ Some (remaining s w (set (c ∷ cs) (at (c ∷ cs)) 0))
  found_at c cs true e d g l h =
      let i : at (c ∷ cs) ≡ suc (at cs) = index_skip c cs (rw e) in
      remove_zero c cs e ∙ h (omega arith) ∙ ap Some (sym (remaining_zero s w c (set cs (at cs) 0) (eqb-true c 0 e))) ∙ ap (λ (k : ℕ). Some (remaining s w (set (c ∷ cs) k 0))) (sym i)
  found_at c cs false e true g l h =
      let i : at (c ∷ cs) ≡ 0 = index_hit c cs (rw (e, g)) in
      remove_some c cs true e g ∙ ap Some (sym (remaining_zero s w 0 cs refl)) ∙ ap (λ (k : ℕ). Some (remaining s w (set (c ∷ cs) k 0))) (sym i)
  found_at c cs false e false g l h =
      let i : at (c ∷ cs) ≡ suc (at cs) = index_skip c cs (rw (e, g)) in
      let z = eqb-false c 0 e in
      remove_some c cs false e g ∙ ap (keep (tree_at s w c)) (h (omega arith)) ∙ ap Some (sym (remaining_some s w c (set cs (at cs) 0) (omega arith)))
      ∙ ap (λ (k : ℕ). Some (remaining s w (set (c ∷ cs) k 0))) (sym i)

  pub remove_found : (cs : List ℕ) → at cs < length cs → remove f t (remaining s w cs) ≡ Some (remaining s w (set cs (at cs) 0))
  remove_found [] l = absurd (omega arith)
  remove_found (c ∷ cs) l = found_at c cs (eqb c 0) refl (f t (tree_at s w c)) refl l (λ k. remove_found cs k)

  none_at : (c : ℕ) (cs : List ℕ) (b : Bool) → eqb c 0 ≡ b → (d : Bool) → f t (tree_at s w c) ≡ d → suc (length cs) ≤ at (c ∷ cs)
      → (length cs ≤ at cs → remove f t (remaining s w cs) ≡ None) → remove f t (remaining s w (c ∷ cs)) ≡ None
  none_at c cs true e d g l h = let i : at (c ∷ cs) ≡ suc (at cs) = index_skip c cs (rw e) in remove_zero c cs e ∙ h (omega arith)
  none_at c cs false e true g l h = let i : at (c ∷ cs) ≡ 0 = index_hit c cs (rw (e, g)) in absurd (omega arith)
  none_at c cs false e false g l h = let i : at (c ∷ cs) ≡ suc (at cs) = index_skip c cs (rw (e, g)) in remove_some c cs false e g ∙ ap (keep (tree_at s w c)) (h (omega arith))

  pub remove_none : (cs : List ℕ) → length cs ≤ at cs → remove f t (remaining s w cs) ≡ None
  unfolding remaining remove
  remove_none [] l = refl
  remove_none (c ∷ cs) l = none_at c cs (eqb c 0) refl (f t (tree_at s w c)) refl l (λ k. remove_none cs k)

pub remove_never : (f : Tree → Tree → Bool) (t : Tree) → ((u : Tree) → f t u ≡ false) → (us : List Tree) → remove f t us ≡ None
unfolding remove
remove_never f t h [] = refl
remove_never f t h (u ∷ us) = ap (λ (b : Bool). remove_at b u us (remove f t us)) (h u) ∙ ap (keep u) (remove_never f t h us)

-- ---- words that are 0

-- ---- one cell of the left

module _ (s w : List ℕ) (p mid end : ℕ) (b : Bool) (lt : p < mid) (le : mid ≤ end) (r : end ≤ length w) (some_cell : 0 < get_or w p 0) where
  t : Tree
  t = tree_at s w (get_or w p 0)

  abbrev us : List Tree
  us = remaining s w (slice mid end w)

-- ---- all of them
