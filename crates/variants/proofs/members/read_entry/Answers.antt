use Rattle.variants.proofs.ReadingMembers.{entry_unread, entry_there}
use Rattle.variants.proofs.members.read_entry.Goals as goal

pub returns-in_err-value : goal.returns-in_err-value
returns-in_err-value c = rw c.from_residual.ensures (entry_unread c.args.entry c.in_err-value.ensures)

pub returns : goal.returns
returns c = entry_there c.args.entry c.requires.inside.2 c.in_ok-value.ensures c.push_entry.ensures.lists c.push_entry.ensures.end
