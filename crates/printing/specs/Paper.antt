-- The lines that a text takes on paper, by its length: 63 bytes of it stand in a line (02, R-1). Definitions only.
use Rattle.std.specs.Prelude.{ℕ, ◌+◌, ◌-◌, ◌/◌}

abbrev pub lines_for : ℕ → ℕ
lines_for n = 1 + (n - 1) / 63
