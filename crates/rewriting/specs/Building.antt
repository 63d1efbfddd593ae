-- The scratch words that the rules with keys need above the cells. Definitions only.
use Rattle.std.specs.Prelude.{ℕ}

-- the words that the comparison of two keys of together at most 4,096 nodes needs, fifteen for each node
abbrev pub key_room : ℕ
key_room = 61440
