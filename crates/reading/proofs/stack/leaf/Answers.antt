use Rattle.reading.proofs.StacksIn.{leaf_adds}
use Rattle.reading.proofs.stack.leaf.Goals as goal

pub returns-clause-adds : goal.returns-clause-adds
returns-clause-adds c = leaf_adds c.args.stack c.requires.held c.requires.room.0 c.word-next.ensures.0 c.push_leaf-cell.ensures c.set_word.ensures
