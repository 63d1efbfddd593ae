use native.Mathlib.Omega.{arith}
use Rattle.tree.proofs.Pushing.{arena_none}
use Rattle.answers.proofs.giving.give_told.Goals as goal

pub invariant_of-area : goal.invariant_of-area
invariant_of-area c = record { arena = arena_none _ _ (omega arith) }
