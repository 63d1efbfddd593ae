use Rattle.layout.proofs.Entering.{held_next, held_end}
use Rattle.layout.proofs.entries.holds.Goals as goal

pub loop-x-preserved : goal.loop-x-preserved
loop-x-preserved c = held_next c.loop-x.found c.args.b c.args.text.now c.loop-x.x-index c.loop-x-test.true c.loop-x.invariant

pub returns : goal.returns
returns c = held_end c.loop-x.found c.args.b c.args.text.now c.loop-x.x-index c.loop-x-test.false c.loop-x.invariant
