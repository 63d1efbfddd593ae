use Rattle.tree.proofs.Areas.{arena_below, below_set}
use Rattle.tree.proofs.area.Area.set_word.Goals as goal

pub invariant_of-self : goal.invariant_of-self
invariant_of-self c = record { arena = arena_below c.args.self.now.arena (below_set c.args.self.now.work.now c.args.self.now.free c.args.at c.args.value c.requires.above.0) }
