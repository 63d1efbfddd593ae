-- What an answer of `unify` or `match` in an area says. Definitions only.
use Rattle.std.specs.Prelude.{ℕ, Result, Ok, Err}
use Rattle.rules.specs.declared.Ending.{Ending}
use Rattle.rules.specs.declared.Ending.TheVariants as ending
use Rattle.rules.specs.Solving as rules
use Rattle.tree.specs.declared.area.Area.{Area}
use Rattle.substitution.specs.Areas.{bindings_in}
use Rattle.substitution.specs.declared.answer.Answer.{Answer}

-- the verdict of a run that ends without a solution
abbrev pub stopped : Ending → rules.Verdict
stopped ending.Failed = rules.failed
stopped ending.Unsupported = rules.unsupported

-- what a verdict says; the bindings are the list from a cell on
abbrev pub verdict_in : Area → Result ℕ Ending → rules.Verdict
verdict_in a (Ok k) = rules.solved (bindings_in a k)
verdict_in a (Err e) = stopped e

-- what an answer says
abbrev pub answer_in : Area → Answer → rules.Answer
answer_in a r = (verdict_in a r.verdict, r.spent)
