-- A decision that names no cell is held in every area, and says the same in each.
use mathlib.Core.Path.{◌≡◌, refl}
use Rattle.std.specs.Prelude.{ℕ, Result, Ok, Err}
use Rattle.rules.specs.declared.Ending.{Ending}
use Rattle.rules.specs.declared.Refusal.{Refusal}
use Rattle.tree.specs.declared.area.Area.{Area}
use Rattle.substitution.specs.Answers.{verdict_in}
use Rattle.verdicts.specs.Verdicts.{VerdictHeld, Stopped}
use Rattle.answers.specs.declared.deciding.Lines.{Lines}
use Rattle.answers.specs.declared.deciding.Lines.TheVariants.{Claim, Term, Verdict}
use Rattle.answers.specs.Deciding.{reply_of, Standing, NamesNone}

stopped_held : (a : Area) (v : Result ℕ Ending) → Stopped v → VerdictHeld a v
stopped_held a (Ok b) h = absurd h
stopped_held a (Err e) h = tt

pub told_held : (a : Area) (d : Result Lines Refusal) → NamesNone d → Standing a d
told_held a (Err x) h = tt
told_held a (Ok (Claim k c)) h = tt
told_held a (Ok (Term k i)) h = absurd h
told_held a (Ok (Verdict r)) h = stopped_held a r.verdict h

stopped_alike : (a b : Area) (v : Result ℕ Ending) → Stopped v → verdict_in a v ≡ verdict_in b v
stopped_alike a b (Ok k) h = absurd h
stopped_alike a b (Err e) h = refl

pub told_alike : (a b : Area) (d : Result Lines Refusal) → NamesNone d → reply_of a d ≡ reply_of b d
told_alike a b (Err x) h = refl
told_alike a b (Ok (Claim k c)) h = refl
told_alike a b (Ok (Term k i)) h = absurd h
told_alike a b (Ok (Verdict r)) h = rw (stopped_alike a b r.verdict h) refl
