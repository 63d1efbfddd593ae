use Rattle.tree.specs.Names.{fixed_text}
use Rattle.tree.proofs.Lists.{lists_over}
use Rattle.tree.proofs.area.Area.push_over.Goals as goal

pub returns-clause-lists : goal.returns-clause-lists
returns-clause-lists c = lists_over c.args.x c.share-first.ensures (fixed_text c.args.name) c.push_fixed.ensures c.requires.cells.2
