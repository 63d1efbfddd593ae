-- A length that is measured up to a room. Definitions only.
use Rattle.std.specs.Prelude.{ℕ, cond, leb}
use Rattle.std.specs.Prelude.{Option, Some, None}

unfoldable pub measured : ℕ → ℕ → Option ℕ
measured n room = cond (leb n room) (Some n) None
