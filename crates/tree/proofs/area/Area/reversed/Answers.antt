use native.Mathlib.Omega.{arith}
use Rattle.tree.proofs.Backward.{backward_starts, backward_lists, backward_end, backward_room, backward_turn}
use Rattle.tree.proofs.area.Area.reversed.Goals as goal

pub loop-k-init : goal.loop-k-init
loop-k-init c = backward_starts c.args.self.now c.args.list c.requires.list

pub share-first-requires-clause-room : goal.share-first-requires-clause-room
share-first-requires-clause-room c = backward_room c.loop-k.invariant (omega arith) c.requires.room

pub loop-k-preserved : goal.loop-k-preserved
loop-k-preserved c = backward_turn c.loop-k.invariant (omega arith) c.next_of-next.ensures.next c.next_of-next.ensures.below c.share-first.ensures

pub returns-clause-lists : goal.returns-clause-lists
returns-clause-lists c = backward_lists c.loop-k.invariant (omega arith)

pub returns-clause-end : goal.returns-clause-end
returns-clause-end c = backward_end c.loop-k.invariant (omega arith)
