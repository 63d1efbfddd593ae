-- Answered sheets of kind `cover`: yes, no and none each exactly where that is meant.
use mathlib.Core.Path.{◌≡◌}
use mathlib.Core.List.{List}
use Rattle.std.specs.Prelude.{Some}
use Rattle.laws.proofs.Basics.Somes.{some_injective}
use Prim.Native.Nat.{ℕ}
use Rattle.rules.specs.Bytes.{Text}
use Rattle.rules.specs.Text.{bytes}
use Rattle.rules.specs.Substitution.{Pair}
use Rattle.rules.specs.Cover.{covered}
use Rattle.rules.specs.Families.{CoveredMeans}
use Rattle.rules.specs.Sheet.{Entry, Member, asks_cover, read_sheet}
use Rattle.rules.specs.Answer.{read_pairs, answer_of}
use Rattle.rules.specs.Call.{passed, call}
use Rattle.rules.specs.Saying.{Says}
use Rattle.laws.proofs.Basics.Options.{bound}
use Rattle.laws.proofs.Variants.Covered.{covered_is}
use Rattle.laws.proofs.Sheets.Calls.{call_answer}
use Rattle.laws.proofs.Sheets.Saying.Claims.{claim_says}

module _ (s : Text) (words room : ℕ) (a : Text) (c : call s words room ≡ passed a) where
  pub cover_said : (texts : List Entry) (ms : List Member) → read_sheet s ≡ Some (asks_cover texts ms)
      → (ps : List Pair) × (read_pairs texts ≡ Some ps) × Says (bytes "covered=") (CoveredMeans ps ms) a
  unfolding answer_of
  cover_said texts ms h =
      let (ps, f, e) = bound (read_pairs texts) _ a (call_answer s words room (asks_cover texts ms) a h c) in
      (ps, f, claim_says (bytes "covered=") (CoveredMeans ps ms) a (covered ps ms) (some_injective _ a e) (covered_is ps ms))
