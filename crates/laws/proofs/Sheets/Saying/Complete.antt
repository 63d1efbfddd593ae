-- Answered sheets of kind `complete`: yes, no and none each exactly where that is meant.
use mathlib.Core.Path.{◌≡◌}
use mathlib.Core.List.{List}
use Rattle.std.specs.Prelude.{Some}
use Rattle.laws.proofs.Basics.Somes.{some_injective}
use Prim.Native.Nat.{ℕ}
use Rattle.rules.specs.Bytes.{Text}
use Rattle.rules.specs.Text.{bytes}
use Rattle.rules.specs.Tree.{Tree}
use Rattle.rules.specs.Reading.{parse}
use Rattle.rules.specs.Variants.{complete}
use Rattle.rules.specs.Families.{CompleteMeans}
use Rattle.rules.specs.Sheet.{Member, asks_complete, read_sheet}
use Rattle.rules.specs.Answer.{answer_of}
use Rattle.rules.specs.Call.{passed, call}
use Rattle.rules.specs.Saying.{Says}
use Rattle.laws.proofs.Basics.Options.{bound}
use Rattle.laws.proofs.Reading.Builds.{builds, reads_within}
use Rattle.laws.proofs.Variants.Complete.{complete_is}
use Rattle.laws.proofs.Sheets.Calls.{call_answer}
use Rattle.laws.proofs.Sheets.Saying.Claims.{claim_says}

module _ (s : Text) (words room : ℕ) (a : Text) (c : call s words room ≡ passed a) where
  pub complete_said : (text : Text) (ms : List Member) → read_sheet s ≡ Some (asks_complete text ms)
      → (t : Tree) × (parse text ≡ Some t) × Says (bytes "complete=") (CompleteMeans t ms) a
  unfolding answer_of
  complete_said text ms h =
      let (t, f, e) = bound (parse text) _ a (call_answer s words room (asks_complete text ms) a h c) in
      (t, f, claim_says (bytes "complete=") (CompleteMeans t ms) a (complete t ms) (some_injective _ a e) (complete_is t (builds text t f) (reads_within text t f) ms))
