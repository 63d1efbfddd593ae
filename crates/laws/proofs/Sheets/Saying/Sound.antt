-- Answered sheets of kind `sound`: yes, no and none each exactly where that is meant.
use mathlib.Core.Path.{◌≡◌}
use Rattle.std.specs.Prelude.{Some}
use Rattle.laws.proofs.Basics.Somes.{some_injective}
use Prim.Native.Nat.{ℕ}
use Rattle.rules.specs.Bytes.{Text}
use Rattle.rules.specs.Text.{bytes}
use Rattle.rules.specs.Tree.{Tree}
use Rattle.rules.specs.Reading.{parse}
use Rattle.rules.specs.Variants.{sound}
use Rattle.rules.specs.Families.{SoundMeans}
use Rattle.rules.specs.Sheet.{Member, asks_sound, read_sheet}
use Rattle.rules.specs.Answer.{answer_of}
use Rattle.rules.specs.Call.{passed, call}
use Rattle.rules.specs.Saying.{Says}
use Rattle.laws.proofs.Basics.Options.{bound}
use Rattle.laws.proofs.Reading.Builds.{builds}
use Rattle.laws.proofs.Variants.Sound.{sound_is}
use Rattle.laws.proofs.Sheets.Calls.{call_answer}
use Rattle.laws.proofs.Sheets.Saying.Claims.{claim_says}

module _ (s : Text) (words room : ℕ) (a : Text) (c : call s words room ≡ passed a) where
  pub sound_said : (text : Text) (m : Member) → read_sheet s ≡ Some (asks_sound text m)
      → (t : Tree) × (parse text ≡ Some t) × Says (bytes "sound=") (SoundMeans t m) a
  unfolding answer_of
  sound_said text m h =
      let (t, f, e) = bound (parse text) _ a (call_answer s words room (asks_sound text m) a h c) in
      (t, f, claim_says (bytes "sound=") (SoundMeans t m) a (sound t m) (some_injective _ a e) (sound_is t (builds text t f) m))
