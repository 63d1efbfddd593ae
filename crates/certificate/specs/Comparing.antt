-- How the canonical texts of two texts stand to each other. Definitions only.
use Rattle.std.specs.Prelude.{ℕ, ◌+◌, ◌≤◌, ◌≡◌, Bool, List, take}
use Rattle.std.specs.Prelude.{Option, Some, None}
use Rattle.std.specs.declared.cmp.Ordering.{Ordering}
use Rattle.std.proofs.Math.Seq.{slice}
use Rattle.rules.specs.Bytes.{Text, same}
use Rattle.sheet.specs.declared.Place.{Place}
use Rattle.rules.specs.Reading.{canonical_text}
use Rattle.runs.specs.Texts.{texts, Tokens, lex}

-- the first words of v, up to `end`, have the canonical text of a text of the sheet s
pub record CanonicalWords (s v : List ℕ) (text : Place) (end : ℕ) : Type 0 where
  pub room : end + text.from ≤ text.to
  pub canonical : canonical_text (slice text.from text.to s) ≡ Some (texts s (take end v))
  pub tokens : Tokens s v 0 end

abbrev pub CanonicalWritten : Text → List ℕ → Place → Option ℕ → Type 0
CanonicalWritten s v text (Some end) = CanonicalWords s v text end
CanonicalWritten s v text None = canonical_text (slice text.from text.to s) ≡ None

-- the order of two texts that are terms
abbrev pub order_of : Option Text → Option Text → Option Ordering
order_of None b = None
order_of (Some a) None = None
order_of (Some a) (Some b) = Some (lex a b)

-- whether they have one canonical text
abbrev pub equivalence_of : Option Text → Option Text → Option Bool
equivalence_of None b = None
equivalence_of (Some a) None = None
equivalence_of (Some a) (Some b) = Some (same a b)
