-- The line at a position of a sheet, its value, and the lines from a position on. Definitions only.
use Rattle.std.specs.Prelude.{ℕ, ◌+◌, ◌-◌, List, cond, length, take, drop, eqb, position}
use Rattle.std.specs.Prelude.{Option, Some, None, option_map}
use Rattle.rules.specs.Bytes.{Text}
use Rattle.rules.specs.Maybe.{◌>>=◌}
use Rattle.rules.specs.Lines.{lines}
use Rattle.text.specs.Prefix.{begins_with}
use Rattle.sheet.specs.declared.Cursor.{Cursor}
use Rattle.sheet.specs.declared.Place.{Place}
use Rattle.sheet.specs.declared.Read.{Read}

-- the bytes from one position up to, not including, another
abbrev pub part_of : ℕ → ℕ → Text → Text
part_of from to s = take (to - from) (drop from s)

-- the lines of the sheet from a position on
unfoldable pub lines_at : Text → ℕ → Option (List Text)
lines_at s at = lines (drop at s)

-- how many bytes stand before the first that is b
abbrev pub up_to : ℕ → Text → Option ℕ
up_to b s = position (λ (a : ℕ). eqb a b) s

abbrev pub place_between : ℕ → ℕ → Place
place_between f t = record { from = f; to = t }

abbrev pub line_between : ℕ → ℕ → Cursor → Read Place
line_between f t n = record { value = place_between f t; next = n }

-- the line from `from` with so many bytes
abbrev pub line_of : ℕ → ℕ → Read Place
line_of from n = line_between from (from + n) (record { at = from + n + 1 })

-- the line at a position, if a byte 10 ends it
unfoldable pub line_at : Text → ℕ → Option (Read Place)
line_at s at = option_map (line_of at) (up_to 10 (drop at s))

-- a line's value: what follows the key, where it has this key
abbrev pub value_of : Text → Text → Read Place → Option (Read Place)
value_of s key l =
    cond (begins_with key (part_of l.value.from l.value.to s)) (Some (line_between (l.value.from + length key) l.value.to l.next)) None

-- the value of the line at a position, where it has this key
unfoldable pub value_at : Text → Text → ℕ → Option (Read Place)
unfolding line_at
value_at s key at = line_at s at >>= value_of s key
