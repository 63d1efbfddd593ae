-- The next symbol at a position of a text: a bracket, a comma, a name or the end. Definitions only.
use Rattle.std.specs.Prelude.{ℕ, ◌+◌, Bool, cond, length, get_or, drop, eqb, ltb}
use Rattle.std.specs.Prelude.{Option, Some, option_map}
use Rattle.rules.specs.Bytes.{Text}
use Rattle.rules.specs.Tokens.{run_length, rest_length}
use Rattle.syntax.specs.declared.symbols.Symbol.{Symbol}
use Rattle.syntax.specs.declared.symbols.Symbol.TheVariants.{Begin, Shut, Comma, Name, Stop}

-- the blank
abbrev pub blank : ℕ → Bool
blank b = eqb b 32

-- where something ends, by its length
abbrev pub end_of : ℕ → Option ℕ → Option ℕ
end_of at o = option_map (λ (n : ℕ). at + n) o

-- the symbol of a token by its first byte
abbrev pub symbol_with : ℕ → ℕ → ℕ → Symbol
symbol_with b from to = cond (eqb b 40) (Begin to) (cond (eqb b 41) (Shut to) (cond (eqb b 44) (Comma to) (Name (record { from = from; to = to }))))

-- if it is one
abbrev pub symbol_from : Text → ℕ → Option ℕ → Option Symbol
symbol_from s from o = option_map (λ (to : ℕ). symbol_with (get_or s from 0) from to) o

-- the first byte after the blanks
abbrev pub start_at : Text → ℕ → ℕ
start_at s at = at + run_length blank (drop at s)

-- the next symbol, if a token or nothing stands after the blanks
unfoldable pub next_symbol : Text → ℕ → Option Symbol
next_symbol s at = cond (ltb (start_at s at) (length s)) (symbol_from s (start_at s at) (end_of (start_at s at + 1) (rest_length (get_or s (start_at s at) 0) (drop (start_at s at + 1) s)))) (Some Stop)
