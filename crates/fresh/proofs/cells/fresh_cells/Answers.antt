use native.Mathlib.Omega.{arith}
use mathlib.Core.Path.{ap}
use lib.ListN.{length}
use Rattle.fresh.proofs.ChoosingLaws.{chosen_starts, chosen_turn, chosen_ends}
use Rattle.fresh.proofs.cells.fresh_cells.Goals as goal

pub loop-n-init : goal.loop-n-init
loop-n-init c = chosen_starts c.args.area.now c.args.base

pub push_fresh-requires-clause-short : goal.push_fresh-requires-clause-short
push_fresh-requires-clause-short c = omega (arith, c.requires.short.0, ap (λ s. length s.now) c.loop-n.invariant.adds.lent.sheet)

pub push_fresh-requires-clause-room : goal.push_fresh-requires-clause-room
push_fresh-requires-clause-room c =
    let h = c.loop-n.invariant in
    (omega (arith, h.end, h.adds.grown.len, c.loop-n-test.true, c.requires.room.0), omega (arith, h.end, c.loop-n-test.true, c.requires.room.1))

pub loop-n-preserved : goal.loop-n-preserved
loop-n-preserved c = chosen_turn c.loop-n.invariant c.push_fresh.ensures

pub returns : goal.returns
returns c = chosen_ends c.loop-n.invariant c.loop-n-test.false (omega arith)
