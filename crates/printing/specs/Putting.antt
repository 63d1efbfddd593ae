-- A text put into an output. Definitions only.
use Rattle.std.specs.Prelude.{ℕ, ◌+◌, ◌≤◌, ◌≡◌, length}
use Rattle.std.specs.Prelude.{Option, Some, None}
use Rattle.rules.specs.Bytes.{Text}
use Rattle.text.specs.Printing.{printed_over}
use Rattle.printing.specs.Measure.{measured}
use Rattle.printing.specs.declared.output.Output.{Output}
use Rattle.printing.specs.declared.output.Pass.TheVariants.{Measure, Write}

-- the place of an output where something was put, none where it did not fit
abbrev pub place_after : Output → Option (Unit {0}) → Option ℕ
place_after b (Some u) = Some b.at
place_after b None = None

-- b is a with t from its place on where t is written and fits, the place after t, and n lines more; r is none where t ends beyond the
-- room, and a pass that measures changes no byte
pub record PutInto (a b : Output) (t : Text) (n : ℕ) (r : Option (Unit {0})) : Type 0 where
  pub lent : b.bytes.ghost_name ≡ a.bytes.ghost_name
  pub pass : b.pass ≡ a.pass
  pub room : b.room ≡ a.room
  pub end : place_after b r ≡ measured (a.at + length t) a.room
  pub lines : r ≡ Some tt → b.lines ≡ a.lines + n
  pub len : length b.bytes.now ≡ length a.bytes.now
  pub written : a.pass ≡ Write → a.at + length t ≤ a.room → b.bytes.now ≡ printed_over a.bytes.now a.at t
  pub kept : a.pass ≡ Measure → b.bytes.now ≡ a.bytes.now
