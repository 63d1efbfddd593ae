-- Parts of a text. Definitions only.
use Rattle.std.specs.Prelude.{ℕ, ◌≡◌, take, drop}
use Rattle.rules.specs.Bytes.{Text}

-- the second text stands in the first: so many bytes from a place on
abbrev pub PartOf : Text → Text → Type 0
PartOf s x = (a : ℕ) × (n : ℕ) × (take n (drop a s) ≡ x)
