use Rattle.std.proofs.Common.{rules}
use Rattle.sums.proofs.Readying.{second_room, strike_cells, strike_small, strike_room, cancels}
use Rattle.sums.proofs.cancel_in.Goals as goal

pub gather-requires-2-clause-room : goal.gather-requires-2-clause-room
gather-requires-2-clause-room c = second_room c.args.left c.args.right c.requires.room c.gather.ensures.collected

pub strike-requires-clause-cells : goal.strike-requires-clause-cells
strike-requires-clause-cells c = let p = c.split_at_mut-cells.ensures in strike_cells c.args.left c.args.right c.requires.room c.gather.ensures.collected _ _ c.gather-2.ensures.collected p.value p.front_len

pub strike-requires-clause-small : goal.strike-requires-clause-small
strike-requires-clause-small c = let p = c.split_at_mut-cells.ensures in strike_small c.args.left c.args.right c.requires.room c.gather.ensures.collected _ _ c.gather-2.ensures.collected p.value p.front_len c.requires.small

pub strike-requires-clause-room : goal.strike-requires-clause-room
strike-requires-clause-room c = let p = c.split_at_mut-cells.ensures in strike_room c.args.left c.args.right c.requires.room c.gather.ensures.collected _ _ c.gather-2.ensures.collected p.value p.front_len

pub returns : goal.returns
returns c = let p = c.split_at_mut-cells.ensures in cancels c.args.left c.args.right c.requires.room c.gather.ensures.collected _ _ c.gather-2.ensures.collected p.value p.front_len c.strike.new.scratch c.strike.ensures (search rules)
