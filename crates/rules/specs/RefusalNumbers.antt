-- The refusals and their numbers (01, "A sheet comes in": "From the input", "From the state"; 02, R-1).
use Rattle.std.specs.Prelude.{ℕ}
use Rattle.rules.specs.declared.Refusal.{Refusal}
use Rattle.rules.specs.declared.Refusal.TheVariants.{TooLong, ForeignByte, LineOutOfPlace, UnreadableTerm, ShortWorkArea, ShortOutput, TooManyPages}

abbrev pub number_for : Refusal → ℕ
number_for TooLong = 1
number_for ForeignByte = 2
number_for LineOutOfPlace = 3
number_for UnreadableTerm = 4
number_for ShortWorkArea = 11
number_for ShortOutput = 12
number_for TooManyPages = 13
