-- The parts of the answer to `unify` and `match`. Definitions only.
use Rattle.std.specs.Prelude.{ℕ, ◌+◌, ◌++◌, ◌<◌, length, Result, Ok, Err}
use Rattle.rules.specs.Bytes.{Text}
use Rattle.rules.specs.Text.{bytes}
use Rattle.rules.specs.Decimal.{decimal}
use Rattle.rules.specs.Answer.{line}
use Rattle.rules.specs.declared.Ending.{Ending}
use Rattle.rules.specs.declared.Ending.TheVariants as ending
use Rattle.tree.specs.declared.area.Area.{Area}
use Rattle.tree.specs.Areas.{trees_in}
use Rattle.substitution.specs.Bindings.{Chain}
use Rattle.printing.specs.Paper.{lines_for}

-- a verdict without a solution
abbrev pub ending_word : Ending → Text
ending_word ending.Failed = bytes "failed"
ending_word ending.Unsupported = bytes "unsupported"

-- the verdict's line and the number of pairs taken, and their lines on paper
unfoldable pub head_lines : Text → ℕ → Text
head_lines verdict spent = line (bytes "verdict=") verdict ++ line (bytes "spent=") (decimal spent)

abbrev pub head_count : Text → ℕ → ℕ
head_count verdict spent = lines_for (length verdict) + lines_for (length (decimal spent))

-- the bindings of a verdict are cells of the area
abbrev pub VerdictHeld : Area → Result ℕ Ending → Type 0
VerdictHeld a (Ok b) = (b < a.free) × Chain (trees_in a b)
VerdictHeld a (Err e) = Unit {0}

-- a run that ends without a solution
abbrev pub Stopped : Result ℕ Ending → Type 0
Stopped (Ok b) = ⊥
Stopped (Err e) = Unit {0}
