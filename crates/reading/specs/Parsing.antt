-- The room that the term reader takes. Definitions only.
use Rattle.std.specs.Prelude.{ℕ, ◌+◌, ◌*◌, ◌-◌}

-- the cells end at most here
abbrev pub limit_of : ℕ → ℕ → ℕ → ℕ
limit_of start from to = start + 2 * (to - from)

-- the words of the stack end at most here
abbrev pub stack_end : ℕ → ℕ → ℕ → ℕ
stack_end start from to = 4 * limit_of start from to + 3 * (to - from) + 1
