-- What a reply gives with an output, as the code answers it. Definitions only.
use Rattle.std.specs.Prelude.{ℕ, ◌≡◌}
use Rattle.std.specs.Prelude.{Result, Ok, Err}
use Rattle.rules.specs.Bytes.{Text}
use Rattle.rules.specs.Call.{Reply, ◌>>=◌, fitting, refusal_number, written, overwritten}
use Rattle.rules.specs.declared.Refusal.{Refusal}
use Rattle.rules.specs.RefusalNumbers.{number_for}

-- a reply with an output of so many bytes: 12 where the answer is longer
unfoldable pub within_room : Reply Text → ℕ → Reply Text
within_room o room = do
  answer ← o
  fitting answer room

-- 01's number, 0 for none, and the count of bytes written
abbrev pub reply_number : Result ℕ Refusal → ℕ
reply_number (Ok n) = 0
reply_number (Err x) = number_for x

abbrev pub reply_count : Result ℕ Refusal → ℕ
reply_count (Ok n) = n
reply_count (Err x) = 0

-- r and the output v afterwards are what a reply gives with the output out
pub record Settles (o : Reply Text) (out v : Text) (r : Result ℕ Refusal) : Type 0 where
  pub number : reply_number r ≡ refusal_number o
  pub count : reply_count r ≡ written o
  pub output : v ≡ overwritten o out
