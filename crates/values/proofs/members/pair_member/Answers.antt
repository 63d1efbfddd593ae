use Rattle.values.proofs.Covering.{pairs_unread, pairs_links, pairs_solution, pairs_words, pairs_made}
use Rattle.values.proofs.members.pair_member.Goals as goal

pub returns-in_err-read : goal.returns-in_err-read
returns-in_err-read c = rw c.from_residual.ensures (pairs_unread c.args.solution c.args.start.at c.in_err-read.ensures)

pub pair_values-requires-clause-links : goal.pair_values-requires-clause-links
pair_values-requires-clause-links c = pairs_links c.requires.solution c.in_ok-read.ensures

pub pair_values-requires-clause-solution : goal.pair_values-requires-clause-solution
pair_values-requires-clause-solution c = pairs_solution c.requires.solution c.in_ok-read.ensures

pub pair_values-requires-clause-room : goal.pair_values-requires-clause-room
pair_values-requires-clause-room c = pairs_words c.requires.solution c.in_ok-read.ensures c.requires.room

pub returns : goal.returns
returns c = pairs_made c.requires.solution c.in_ok-read.ensures c.pair_values.ensures
