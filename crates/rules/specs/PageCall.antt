-- The second call, which gives a sheet's answer laid out in pages: the refusals in order, with 13 just before 12, as a function and as
-- a relation; every byte and word afterwards (02, R-1). The work area is left as the first call leaves it.
use Rattle.std.specs.Prelude.{ℕ, ◌≤◌, ◌<◌, ◌≡◌, List, leb, length, Some}
use Rattle.rules.specs.Bytes.{Text}
use Rattle.rules.specs.Sheet.{Sheet}
use Rattle.rules.specs.Answer.{answer_of}
use Rattle.rules.specs.declared.Refusal.TheVariants.{UnreadableTerm, ShortOutput, TooManyPages}
use Rattle.rules.specs.RefusalNumbers.{number_for}
use Rattle.rules.specs.Call.{Reply, refused, passed, ◌>>=◌, need, given, admitted, fitting, overwritten}
use Rattle.rules.specs.Refusals.{Admitted, Outcome}
use Rattle.rules.specs.Page.{page, page_count}

-- 4, 13, 12: from the lines and the length of the output
unfoldable pub page_settled : Sheet → ℕ → Reply Text
unfolding answer_of page_count page
page_settled sheet room = do
  answer ← given (answer_of sheet) (number_for UnreadableTerm)
  _ ← need (leb (page_count answer) 9999) (number_for TooManyPages)
  fitting (page answer) room

-- 1, 2, 3, 11 as the first call
unfoldable pub page_call : Text → ℕ → ℕ → Reply Text
unfolding admitted page_settled
page_call s words room = do
  sheet ← admitted s words
  page_settled sheet room

unfoldable pub page_output_after : Text → ℕ → List ℕ → List ℕ
unfolding page_call
page_output_after s words output = overwritten (page_call s words (length output)) output

-- a sheet, the number of words of the work area and of bytes of the output, and what the second call gives: a refusal of the first other
-- than 12, or the first's answer laid out where its pages are not too many and fit
pub data PageOutcome (s : Text) (words room : ℕ) : Reply Text → Type 0 where
  as_first : {n : ℕ} → Outcome s words room (refused n) → ¬ (n ≡ number_for ShortOutput) → PageOutcome s words room (refused n)
  too_many_pages : {sheet : Sheet} {answer : Text} → Admitted s words sheet → answer_of sheet ≡ Some answer → 9999 < page_count answer
      → PageOutcome s words room (refused (number_for TooManyPages))
  short_for_pages : {sheet : Sheet} {answer : Text} → Admitted s words sheet → answer_of sheet ≡ Some answer → page_count answer ≤ 9999
      → room < length (page answer) → PageOutcome s words room (refused (number_for ShortOutput))
  laid_out : {sheet : Sheet} {answer pages : Text} → Admitted s words sheet → answer_of sheet ≡ Some answer → page_count answer ≤ 9999
      → pages ≡ page answer → length pages ≤ room → PageOutcome s words room (passed pages)
