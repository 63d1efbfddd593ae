use Rattle.pairs.proofs.ReadingPairs.{left_unread, right_unread, pair_there}
use Rattle.pairs.proofs.read_pair.Goals as goal

pub returns-in_err-left : goal.returns-in_err-left
returns-in_err-left c = rw c.from_residual.ensures (left_unread c.args.pair c.in_err-left.ensures)

pub returns-in_err-right : goal.returns-in_err-right
returns-in_err-right c = rw c.from_residual-in_err-right.ensures (right_unread c.args.pair c.in_ok-left.ensures c.in_err-right.ensures)

pub returns : goal.returns
returns c = pair_there c.args.pair c.in_ok-left.ensures c.requires.inside.2 c.in_ok-right.ensures c.push_pair.ensures.lists c.push_pair.ensures.end
