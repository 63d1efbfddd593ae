-- Cells given back: those before them are as they were.
use Prim.Native.Nat.{ℕ, ◌<◌, ◌≤◌}
use mathlib.Core.Path.{◌≡◌, ◌∙◌}
use mathlib.Core.List.{List}
use native.Mathlib.Omega.{arith}
use Rattle.rules.specs.Bytes.{Text}
use Rattle.tree.specs.declared.area.Area.{Area}
use Rattle.tree.specs.Arena.{Arena}
use Rattle.tree.specs.Areas.{Lent, KeepsCells, Grows}
use Rattle.tree.proofs.Keeping.{lent_then}

pub arena_fewer : {s : Text} {w : List ℕ} {m n : ℕ} → Arena s w n → 0 < m → m ≤ n → Arena s w m
arena_fewer a p q =
    let l = a.links in
    record {
      links = record { some = p; room = omega (arith, l.room); first = λ k x y. l.first k x (omega arith); next = λ k x y. l.next k x (omega arith) };
      cell = λ k x y. a.cell k x (omega arith);
    }

-- more cells, and all of these given back
pub keeps_truncated : {a b d : Area} {n : ℕ} → n ≡ a.free → Grows a b → Lent b d → d.free ≡ n → d.work.now ≡ b.work.now → KeepsCells a d
keeps_truncated e g l f h = record { lent = lent_then g.lent l; end = f ∙ e; below = rw h g.below }
