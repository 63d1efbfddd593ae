-- Whether a text is spelled somewhere in a sheet, and what a search for it answers. Definitions only.
use Rattle.std.specs.Prelude.{ℕ, ◌+◌, ◌<◌, ◌≤◌, ◌≡◌, Bool, true, false, ◌||◌, [], ◌∷◌, length, drop}
use Rattle.std.specs.Prelude.{Option, Some, None}
use Rattle.rules.specs.Bytes.{Text}
use Rattle.text.specs.Prefix.{begins_with}
use Rattle.sheet.specs.Lines.{part_of}
use Rattle.sheet.specs.declared.Place.{Place}

-- the sheet s spells x
unfoldable pub spells : Text → Text → Bool
unfolding begins_with
spells [] x = begins_with x []
spells (b ∷ s) x = begins_with x (b ∷ s) || spells s x

-- it does at a place, and nowhere before
pub record SpelledAt (s x : Text) (p : Place) : Type 0 where
  pub end : p.to ≡ p.from + length x
  pub inside : p.to ≤ length s
  pub part : part_of p.from p.to s ≡ x
  pub spelled : spells s x ≡ true
  pub first : (k : ℕ) → k < p.from → begins_with x (drop k s) ≡ false

abbrev pub FindsText : Text → Text → Option Place → Type 0
FindsText s x (Some p) = SpelledAt s x p
FindsText s x None = spells s x ≡ false
