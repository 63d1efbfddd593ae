-- The room that a step needs. Definitions only.
use Rattle.std.specs.Prelude.{ℕ, ◌+◌, ◌*◌, ◌<◌, ◌≤◌, ◌^◌, List, length}
use Rattle.elimination.specs.declared.room.TheConstants.{STEP_WORDS}

-- room for k cells and for one step
abbrev pub Room : List ℕ → ℕ → Type 0
Room w k = (4 * k + STEP_WORDS ≤ length w) × (k + 65536 < 2 ^ 32)
