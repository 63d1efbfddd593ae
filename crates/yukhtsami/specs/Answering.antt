-- The calls as the code answers them. Definitions only.
use Rattle.std.specs.Prelude.{ℕ, ◌≡◌, List, length, Option, Some, Result}
use Rattle.rules.specs.Bytes.{Text}
use Rattle.rules.specs.Sheet.{Sheet}
use Rattle.rules.specs.Call.{Reply, settled, call, refusal_number, written, overwritten, work_after}
use Rattle.rules.specs.PageCall.{page_settled, page_call}
use Rattle.answers.specs.Settling.{reply_number, reply_count, Settles}
use Rattle.rules.specs.declared.Refusal.{Refusal}
use Rattle.yukhtsami.specs.declared.Layout.{Layout}
use Rattle.yukhtsami.specs.declared.Layout.TheVariants.{Lines, Pages}

abbrev pub settled_by : Layout → Sheet → ℕ → Reply Text
settled_by Lines = settled
settled_by Pages = page_settled

abbrev pub call_by : Layout → Text → ℕ → ℕ → Reply Text
call_by Lines = call
call_by Pages = page_call

-- a sheet that was read is settled
abbrev pub SettlesForm : (Sheet → ℕ → Reply Text) → Option Sheet → Text → Text → Result ℕ Refusal → Type 0
SettlesForm settle o out v r = (sheet : Sheet) → o ≡ Some sheet → Settles (settle sheet (length out)) out v r

-- what a call gives, as 01's two numbers, and every byte of the output and every word of the work area after it
pub record Gives (f : Text → ℕ → ℕ → Reply Text) (s : Text) (w v : List ℕ) (out after : Text) (refusal count : ℕ) : Type 0 where
  pub number : refusal ≡ refusal_number (f s (length w) (length out))
  pub written_is : count ≡ written (f s (length w) (length out))
  pub output : after ≡ overwritten (f s (length w) (length out)) out
  pub work : v ≡ work_after s w

abbrev pub Answers : (Text → ℕ → ℕ → Reply Text) → Text → List ℕ → List ℕ → Text → Text → Result ℕ Refusal → Type 0
Answers f s w v out after r = Gives f s w v out after (reply_number r) (reply_count r)

-- of the first call, and of the second
abbrev pub Calls : Text → List ℕ → List ℕ → Text → Text → ℕ → ℕ → Type 0
Calls = Gives call

abbrev pub PageCalls : Text → List ℕ → List ℕ → Text → Text → ℕ → ℕ → Type 0
PageCalls = Gives page_call

abbrev pub CallAnswers : Text → List ℕ → List ℕ → Text → Text → Result ℕ Refusal → Type 0
CallAnswers = Answers call

abbrev pub PageAnswers : Text → List ℕ → List ℕ → Text → Text → Result ℕ Refusal → Type 0
PageAnswers = Answers page_call
