-- Places in a sheet: start * 65536 + length of a text. Definitions only.
use Rattle.std.specs.Prelude.{ℕ, ◌+◌, ◌-◌, ◌*◌, ◌/◌, ◌%◌, Bool, List, take, drop}
use Rattle.rules.specs.Bytes.{Text, upto}

-- the place from one position to another
abbrev pub place_word : ℕ → ℕ → ℕ
place_word from to = from * 65536 + (to - from)

-- the items at a place; what reaches past the end is cut
abbrev pub slice_at : {A : Type 0} → List A → ℕ → List A
slice_at s x = take (x % 65536) (drop (x / 65536) s)

-- the text at a place
unfoldable pub text_at : Text → ℕ → Text
text_at s x = slice_at s x

-- the first place's text is not after the second's, by bytes
unfoldable pub places_upto : Text → ℕ → ℕ → Bool
unfolding text_at upto
places_upto s x y = upto (text_at s x) (text_at s y)
