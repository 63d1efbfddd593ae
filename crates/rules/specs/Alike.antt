-- Two sheets alike in all but fuel, answers that are solved or failed, and what the call with more fuel then gives (demand 3, the last
-- sentence).
use Rattle.std.specs.Prelude.{◌≡◌, List, ◌∷◌, ◌++◌, ℕ, ◌≤◌, ◌<◌, length, Some}
use Rattle.rules.specs.Bytes.{Text}
use Rattle.rules.specs.Text.{bytes}
use Rattle.rules.specs.Decimal.{number_up_to}
use Rattle.rules.specs.Lines.{lines}
use Rattle.rules.specs.Solving.{Verdict}
use Rattle.rules.specs.Meaning.{Decided}
use Rattle.rules.specs.Sheet.{Sheet, words_needed}
use Rattle.rules.specs.AnswerReading.{read_answer}
use Rattle.rules.specs.declared.Refusal.TheVariants.{TooLong, ShortWorkArea, ShortOutput}
use Rattle.rules.specs.RefusalNumbers.{number_for}
use Rattle.rules.specs.Call.{Reply, refused, passed}

-- the lines are the same, but for the number after `fuel=` in the second line: `less` in one sheet, `more` in the other
pub record AlikeButFuel (s r : Text) (less more : ℕ) : Type 0 where
  pub kind : Text
  pub after : List Text
  pub less_digits : Text
  pub more_digits : Text
  pub less_number : number_up_to 65536 less_digits ≡ Some less
  pub more_number : number_up_to 65536 more_digits ≡ Some more
  pub less_lines : lines s ≡ Some (kind ∷ (bytes "fuel=" ++ less_digits) ∷ after)
  pub more_lines : lines r ≡ Some (kind ∷ (bytes "fuel=" ++ more_digits) ∷ after)

-- the answer's verdict is "solved" or "failed"
pub record SolvedOrFailed (answer : Text) : Type 0 where
  pub verdict : Verdict
  pub spent : ℕ
  pub reads : read_answer answer ≡ Some (verdict, spent)
  pub decided : Decided verdict

-- what a call with the text r of a sheet gives, where a sheet alike in all but fuel, which has no more, has the answer a: 1 and 11 by its
-- own length and words, 12 where that answer does not fit, else the same bytes
pub data AlikeOutcome (r : Text) (sheet : Sheet) (words room : ℕ) (a : Text) : Reply Text → Type 0 where
  too_long : 65536 < length r → AlikeOutcome r sheet words room a (refused (number_for TooLong))
  short_work_area : length r ≤ 65536 → words < words_needed r sheet → AlikeOutcome r sheet words room a (refused (number_for ShortWorkArea))
  short_output : length r ≤ 65536 → words_needed r sheet ≤ words → room < length a → AlikeOutcome r sheet words room a (refused (number_for ShortOutput))
  same_bytes : length r ≤ 65536 → words_needed r sheet ≤ words → length a ≤ room → AlikeOutcome r sheet words room a (passed a)
