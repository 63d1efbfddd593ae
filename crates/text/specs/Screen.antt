-- What the screening says of a sheet. Definitions only.
use Rattle.std.specs.Prelude.{cond, length, leb, Result, Ok, Err}
use Rattle.rules.specs.Bytes.{Text}
use Rattle.rules.specs.Names.{all}
use Rattle.rules.specs.Call.{plain}
use Rattle.rules.specs.declared.Refusal.{Refusal}
use Rattle.rules.specs.declared.Refusal.TheVariants.{TooLong, ForeignByte}

unfoldable pub screened : Text → Result (Unit {0}) Refusal
screened s = cond (leb (length s) 65536) (cond (all plain s) (Ok tt) (Err ForeignByte)) (Err TooLong)
