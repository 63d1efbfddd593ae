-- What the writer of words does to the work area. Definitions only.
use Rattle.std.specs.Prelude.{ℕ, ◌+◌, ◌<◌, ◌≤◌, ◌≡◌, List, length, take}
use Rattle.std.specs.Prelude.{Option, Some, None}
use Rattle.rules.specs.Bytes.{Text}
use Rattle.sheet.specs.declared.Place.{Place}
use Rattle.syntax.specs.declared.symbols.Symbol.{Symbol}
use Rattle.syntax.specs.declared.symbols.Symbol.TheVariants.{Begin, Shut, Comma, Name, Stop}
use Rattle.runs.specs.Texts.{Tokens}
use Rattle.flattening.specs.Items.{text_words}

-- a text is one of the sheet s
pub record InSheet (s : Text) (text : Place) : Type 0 where
  pub start : text.from ≤ text.to
  pub fits : text.to ≤ length s
  pub small : text.to < 65536

-- there is room in w for the words of a text of the sheet s, and in k for its brackets
pub record TextRoom (s : Text) (text : Place) (w k : List ℕ) : Type 0 where
  pub placed : InSheet s text
  pub words : text.to ≤ text.from + length w
  pub brackets : text.to ≤ text.from + length k

-- how many words a text has once no bracket is open
abbrev pub finished : Symbol → ℕ → Option ℕ
finished (Begin to) end = None
finished (Shut to) end = None
finished (Comma to) end = None
finished (Name place) end = None
finished Stop end = Some end

-- the words of a text of the sheet s are the first ones of v, up to `end`
pub record WordsOf (s v : List ℕ) (text : Place) (end : ℕ) : Type 0 where
  pub room : end + text.from ≤ text.to
  pub words : text_words s (take text.to s) text.from ≡ Some (take end v)
  pub tokens : Tokens s v 0 end

abbrev pub TextWords : Text → List ℕ → Place → Option ℕ → Type 0
TextWords s v text (Some end) = WordsOf s v text end
TextWords s v text None = text_words s (take text.to s) text.from ≡ None
