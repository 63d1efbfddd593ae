-- The summands of a sum, gathered as the numbers of their cells.
use Prim.Native.Nat.{ℕ, zero, suc, ◌+◌, ◌-◌, ◌<◌, ◌≤◌}
use mathlib.Core.Path.{◌≡◌, refl, sym, ap, ap₂, ◌∙◌}
use mathlib.Core.Bool.{Bool, true, false, cond}
use mathlib.Core.List.{List, [], ◌∷◌, ◌++◌}
use lib.Dec.{eqb}
use lib.ListN.{length, get_or}
use lib.Seq.{slice, slice-cons}
use native.Mathlib.Omega.{arith}
use native.Mathlib.Decide.{dec_lt}
use borrow.Author.Tests.{eq-eqb, ne_eqb}
use Rattle.rules.specs.Tree.{Tree}
use Rattle.text.proofs.Slices.{slice_none}
use Rattle.tree.specs.Cells.{tree_at}
use Rattle.tree.specs.Arena.{Links}
use Rattle.tree.proofs.Decoding.{Agree, frame_tree}
use Rattle.sums.specs.Sums.{remaining, heft}

-- ---- lists of cells

module _ (s w : List ℕ) where
  pub remaining_some : (c : ℕ) (cs : List ℕ) → 0 < c → remaining s w (c ∷ cs) ≡ tree_at s w c ∷ remaining s w cs
  unfolding remaining
  remaining_some c cs p = rw (ne_eqb c 0 (omega arith))

  pub remaining_zero : (c : ℕ) (cs : List ℕ) → c ≡ 0 → remaining s w (c ∷ cs) ≡ remaining s w cs
  unfolding remaining
  remaining_zero c cs e = rw (eq-eqb c 0 e)

  pub remaining_append : (cs ds : List ℕ) → remaining s w (cs ++ ds) ≡ remaining s w cs ++ remaining s w ds
  unfolding remaining
  remaining_append [] ds = refl
  remaining_append (c ∷ cs) ds = go (eqb c 0) (remaining_append cs ds)
    where
      go : (b : Bool) → remaining s w (cs ++ ds) ≡ remaining s w cs ++ remaining s w ds
          → cond b (remaining s w (cs ++ ds)) (tree_at s w c ∷ remaining s w (cs ++ ds)) ≡ cond b (remaining s w cs) (tree_at s w c ∷ remaining s w cs) ++ remaining s w ds
      go true e = e
      go false e = ap (λ (ts : List Tree). tree_at s w c ∷ ts) e

  pub heft_append : (cs ds : List ℕ) → heft s w (cs ++ ds) ≡ heft s w cs + heft s w ds
  unfolding heft
  heft_append [] ds = omega arith
  heft_append (c ∷ cs) ds = omega (arith, heft_append cs ds)

-- cells below n in an area that agrees on them
module _ (s w v : List ℕ) (n : ℕ) (l : Links w n) (g : Agree w v n) where
  unfoldable Under : List ℕ → Type 0
  Under [] = Unit
  Under (c ∷ cs) = (c < n) × Under cs

  step_frame : (c : ℕ) (cs : List ℕ) → c < n → remaining s w cs ≡ remaining s v cs → remaining s w (c ∷ cs) ≡ remaining s v (c ∷ cs)
  step_frame c cs p e = elim (dec_lt 0 c) [
    | yes q ↦ remaining_some s w c cs q ∙ ap₂ (λ (t : Tree) (ts : List Tree). t ∷ ts) (frame_tree s v l g c q p) e ∙ sym (remaining_some s v c cs q)
    | no q ↦ remaining_zero s w c cs (omega arith) ∙ e ∙ sym (remaining_zero s v c cs (omega arith))
  ]

  remaining_under : (cs : List ℕ) → Under cs → remaining s w cs ≡ remaining s v cs
  unfolding remaining Under
  remaining_under [] h = refl
  remaining_under (c ∷ cs) h = step_frame c cs h.0 (remaining_under cs h.1)

-- the cells of a slice
module _ (s w v : List ℕ) (n : ℕ) (l : Links w n) (g : Agree w v n) (u : List ℕ) where
  under_slice : (k a e : ℕ) → e ≡ a + k → e ≤ length u → ((p : ℕ) → a ≤ p → p < e → get_or u p 0 < n) → Under s w v n l g (slice a e u)
  unfolding Under
  under_slice zero a e f r h = rw (slice_none a e u (omega arith)) tt
  under_slice (suc k) a e f r h =
      rw (slice-cons a e u 0 (omega arith) r) (h a (omega arith) (omega arith), under_slice k (suc a) e (omega arith) r (λ p x y. h p (omega arith) y))

  pub remaining_frame : (a e : ℕ) → a ≤ e → e ≤ length u → ((p : ℕ) → a ≤ p → p < e → get_or u p 0 < n) → remaining s w (slice a e u) ≡ remaining s v (slice a e u)
  remaining_frame a e x r h = remaining_under s w v n l g (slice a e u) (under_slice (e - a) a e (omega arith) r h)

-- ---- gathering
