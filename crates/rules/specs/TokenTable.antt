-- The bytes 32 to 126 by class, in their order, and the tokens that each gives (01, "Reading").
use Rattle.std.specs.Prelude.{ℕ, zero, suc, Bool, true, false, Option, Some, None}
use mathlib.Core.List.{List, [], ◌∷◌, ◌++◌, map, flat_map}
use Prim.Native.String.{String}
use Rattle.rules.specs.Bytes.{Text}
use Rattle.rules.specs.Text.{bytes}
use Rattle.rules.specs.Tokens.{tokens}

pub data Class : Type 0 where
  letter digit mark blank other : Class

-- bytes that follow each other, and something that they have in common
abbrev pub Run : Type 0 → Type 0
Run A = A × String

abbrev pub classes : List (Run Class)
classes =
    (blank, " ") ∷ (other, "!\"#$%&'") ∷ (mark, "()") ∷ (other, "*+") ∷ (mark, ",") ∷ (other, "-./") ∷ (digit, "0123456789")
    ∷ (other, ":;<=>?@") ∷ (letter, "ABCDEFGHIJKLMNOPQRSTUVWXYZ") ∷ (other, "[\\]^_`") ∷ (letter, "abcdefghijklmnopqrstuvwxyz")
    ∷ (other, "{|}~") ∷ []

-- whether a variable starts with the byte
abbrev pub sigils : List (Run Bool)
sigils =
    (false, " !\"") ∷ (true, "#") ∷ (false, "$") ∷ (true, "%") ∷ (false, "&'()*+,-./0123456789:;<=>?@ABCDEFGHIJKLMNOPQRSTUVWXYZ[\\]^_`abcdefghijklmnopqrstuvw")
    ∷ (true, "x") ∷ (false, "yz{|}~") ∷ []

abbrev pub TokensFound : Type 0
TokensFound = Option (List Text)

-- so many bytes, the next always one more
abbrev pub ascending : ℕ → ℕ → Text
ascending b zero = []
ascending b (suc n) = b ∷ ascending (suc b) n

-- what stands before a byte and what after it
abbrev pub Around : Type 0
Around = Text × Text

abbrev pub within_place : Around → Text → Text
within_place p s = p.0 ++ s ++ p.1

module _ {A : Type 0} where
  abbrev pub all_bytes : List (Run A) → Text
  all_bytes rs = flat_map (λ (r : Run A). bytes r.1) rs

  -- the tokens of each byte at a place
  abbrev pub found : Around → List (Run A) → List TokensFound
  found p rs = map (λ (b : ℕ). tokens (within_place p (b ∷ []))) (all_bytes rs)

  -- what is told of each
  abbrev pub told : (A → ℕ → TokensFound) → List (Run A) → List TokensFound
  told f rs = flat_map (λ (r : Run A). map (f r.0) (bytes r.1)) rs

abbrev pub alone : Around
alone = ([], [])

abbrev pub as_alone : Class → ℕ → TokensFound
as_alone letter b = Some ((b ∷ []) ∷ [])
as_alone digit b = Some ((b ∷ []) ∷ [])
as_alone mark b = Some ((b ∷ []) ∷ [])
as_alone blank b = Some []
as_alone other b = None

-- a name goes on with letters and digits
abbrev pub between_letters : Around
between_letters = (bytes "a", bytes "a")

abbrev pub as_between_letters : Class → ℕ → TokensFound
as_between_letters letter b = Some (within_place between_letters (b ∷ []) ∷ [])
as_between_letters digit b = Some (within_place between_letters (b ∷ []) ∷ [])
as_between_letters mark b = Some (bytes "a" ∷ (b ∷ []) ∷ bytes "a" ∷ [])
as_between_letters blank b = Some (bytes "a" ∷ bytes "a" ∷ [])
as_between_letters other b = None

-- a number with digits alone; with a letter a name starts
abbrev pub between_digits : Around
between_digits = (bytes "1", bytes "1")

abbrev pub as_between_digits : Class → ℕ → TokensFound
as_between_digits letter b = Some (bytes "1" ∷ (b ∷ bytes "1") ∷ [])
as_between_digits digit b = Some (within_place between_digits (b ∷ []) ∷ [])
as_between_digits mark b = Some (bytes "1" ∷ (b ∷ []) ∷ bytes "1" ∷ [])
as_between_digits blank b = Some (bytes "1" ∷ bytes "1" ∷ [])
as_between_digits other b = None

-- a sort starts with a letter
abbrev pub after_colon : Around
after_colon = (bytes "x0:", [])

abbrev pub as_after_colon : Class → ℕ → TokensFound
as_after_colon letter b = Some (within_place after_colon (b ∷ []) ∷ [])
as_after_colon digit b = None
as_after_colon mark b = None
as_after_colon blank b = None
as_after_colon other b = None

-- before a digit, a colon and a letter
abbrev pub before_index : Around
before_index = ([], bytes "0:a")

abbrev pub as_before_index : Bool → ℕ → TokensFound
as_before_index true b = Some (within_place before_index (b ∷ []) ∷ [])
as_before_index false b = None
