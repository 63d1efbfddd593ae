use Rattle.tree.proofs.Truncating.{arena_fewer}
use Rattle.tree.proofs.area.Area.truncate.Goals as goal

pub invariant_of-self : goal.invariant_of-self
invariant_of-self c = record { arena = arena_fewer c.args.self.now.arena c.requires.0 c.requires.1 }
