-- Where two lines that belong together stand, and how many bytes there are beside their values.
use Prim.Native.Nat.{ℕ, ◌+◌, ◌-◌, ◌≤◌}
use native.Mathlib.Omega.{arith}
use mathlib.Core.Path.{◌≡◌}
use Rattle.std.specs.Prelude.{Some}
use lib.ListN.{length}
use Rattle.rules.specs.Bytes.{Text}
use Rattle.rules.specs.Text.{bytes}
use Rattle.sheet.specs.Pairs.{two_lines_at}
use Rattle.sheet.specs.declared.Read.{Read}
use Rattle.sheet.specs.declared.Sides.{Sides}
use Rattle.forms.specs.Form.{Inside}
use Rattle.forms.proofs.PairLaws.{paired}

pub record Located (s : Text) (c beside : ℕ) (two : Read Sides) : Type 0 where
  pub left : Inside s two.value.left
  pub right : Inside s two.value.right
  pub next : c + beside + (two.value.left.to - two.value.left.from) + (two.value.right.to - two.value.right.from) ≡ two.next.at
  pub within : two.next.at ≤ length s

-- two keys and two line feeds stand beside the values
located : (first second s : Text) (c : ℕ) (two : Read Sides) → Some two ≡ two_lines_at first second s c → Located s c (length first + length second + 2) two
located first second s c two e =
    let h = paired first second s c two e in
    record {
      left = h.one.ends;
      right = h.two.ends;
      next = omega (arith, h.one.begins, h.one.ends, h.one.after, h.two.begins, h.two.ends, h.two.after);
      within = omega (arith, h.two.ends, h.two.after);
    }

pub pair_located : (s : Text) (c : ℕ) (two : Read Sides) → Some two ≡ two_lines_at (bytes "left=") (bytes "right=") s c → Located s c 13 two
pair_located s c two e = located (bytes "left=") (bytes "right=") s c two e

pub entry_located : (s : Text) (c : ℕ) (two : Read Sides) → Some two ≡ two_lines_at (bytes "key=") (bytes "value=") s c → Located s c 12 two
entry_located s c two e = located (bytes "key=") (bytes "value=") s c two e
