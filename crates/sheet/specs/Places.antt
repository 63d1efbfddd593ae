-- A place of a sheet as one word: start * 65536 + length. Definitions only.
use Rattle.std.specs.Prelude.{ℕ, ◌+◌, ◌/◌, ◌%◌}
use Rattle.text.specs.Places.{place_word}
use Rattle.sheet.specs.declared.Place.{Place}

abbrev pub word_of : Place → ℕ
word_of p = place_word p.from p.to

abbrev pub place_of : ℕ → Place
place_of x = record { from = x / 65536; to = x / 65536 + x % 65536 }
