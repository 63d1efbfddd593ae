use native.Mathlib.Omega.{arith}
use Rattle.tree.proofs.Keeping.{grows_length}
use Rattle.reading.proofs.Keeping.{sheet_length}
use Rattle.pairs.proofs.ReadingPairs.{pairs_there}
use Rattle.pairs.proofs.read_in_order.Goals as goal

pub returns-in_err-reversed : goal.returns-in_err-reversed
returns-in_err-reversed c = rw c.from_residual.ensures c.in_err-reversed.ensures

pub reversed-requires-clause-list : goal.reversed-requires-clause-list
reversed-requires-clause-list c = c.in_ok-reversed.ensures.inside

pub reversed-requires-clause-room : goal.reversed-requires-clause-room
reversed-requires-clause-room c =
    let x = c.in_ok-reversed.ensures in
    let q = c.requires.room in
    (omega (arith, x.used, x.onward, sheet_length x.grows.lent, x.within, grows_length x.grows, q), omega (arith, x.used, x.onward, sheet_length x.grows.lent, x.within, q))

pub returns : goal.returns
returns c = pairs_there c.in_ok-reversed.ensures c.reversed.ensures.lists c.reversed.ensures.end
