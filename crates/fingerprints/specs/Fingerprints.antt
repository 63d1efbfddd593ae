-- Fingerprints of texts, those of Fowler, Noll and Vo with a sum in place of the exclusive or, and with a sum alone for each zero, so
-- that a run of zeros is one step. Definitions only.
use Rattle.std.specs.Prelude.{ℕ, ◌+◌, ◌*◌, ◌%◌, cond, List, [], ◌∷◌, eqb}

-- a fingerprint, carried on through a byte
unfoldable pub mixed_byte : ℕ → ℕ → ℕ
mixed_byte h b = cond (eqb b 48) ((h + 2654435769) % 4294967296) ((h * 16777619 + b) % 4294967296)

-- through a text
unfoldable pub mixed : ℕ → List ℕ → ℕ
mixed h [] = h
mixed h (b ∷ bs) = mixed (mixed_byte h b) bs

abbrev pub fingerprint : List ℕ → ℕ
fingerprint text = mixed 2166136261 text
