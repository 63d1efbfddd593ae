-- Areas that keep the cells below one.
use Prim.Native.Nat.{ℕ, ◌*◌, ◌≤◌}
use mathlib.Core.Path.{◌≡◌, refl, sym, ◌∙◌}
use mathlib.Core.List.{List}
use lib.ListN.{length, set, length-set}
use lib.Seq.{get_or-set_other}
use native.Mathlib.Omega.{arith}
use Rattle.rules.specs.Bytes.{Text}
use Rattle.text.specs.Frames.{Outside}
use Rattle.tree.specs.Arena.{Arena, Below}
use Rattle.tree.proofs.Decoding.{Agree, same_first, same_next}
use Rattle.tree.proofs.Pushing.{cell_frame}

-- an area of any length that agrees on the cells has the same cells
pub arena_agrees : {w v : List ℕ} {n : ℕ} (s : Text) → Arena s w n → 4 * n ≤ length v → Agree w v n → Arena s v n
arena_agrees {w} {v} s a l g =
    let h = a.links in
    record {
      links = record {
        some = h.some;
        room = l;
        first = λ k p q. omega (arith, h.first k p q, same_first w v g k q);
        next = λ k p q. omega (arith, h.next k p q, same_next w v g k q);
      };
      cell = λ k p q. cell_frame s h g k p q (a.cell k p q);
    }

pub arena_frame : {w v : List ℕ} {n : ℕ} (s : Text) → Arena s w n → length v ≡ length w → Agree w v n → Arena s v n
arena_frame s a e g = arena_agrees s a (omega (arith, a.links.room)) g

pub arena_below : {s : Text} {w v : List ℕ} {n : ℕ} → Arena s w n → Below w v n → Arena s v n
arena_below {s} a b = arena_frame s a b.len b.words

-- nothing changed
pub below_same : (w : List ℕ) (n : ℕ) → Below w w n
below_same w n = record { len = refl; words = λ p h. refl }

-- one change after another
pub below_then : {w v u : List ℕ} {n m : ℕ} → Below w v n → Below v u m → n ≤ m → Below w u n
below_then g h p = record { len = h.len ∙ g.len; words = λ k l. g.words k l ∙ h.words k (omega arith) }

-- words written above the cells keep these
pub outside_below : {w v : List ℕ} {n e : ℕ} → Outside w v (4 * n) e → Below w v n
outside_below o = record { len = o.len; words = λ p q. sym (o.below p q) }

-- a word written above the cells
pub below_set : (w : List ℕ) (n at x : ℕ) → 4 * n ≤ at → Below w (set w at x) n
below_set w n at x h = record { len = length-set w at x; words = λ p q. sym (get_or-set_other w at p x 0 (omega arith)) }
