use Rattle.std.proofs.Common.{arith}
use lib.Dec.{eqb}
use lib.ListN.{get_or}
use Rattle.text.proofs.Loops.{count_next, count_end, bit_small}
use Rattle.text.proofs.count_of.Goals as goal

pub loop-x-preserved : goal.loop-x-preserved
loop-x-preserved c =
    let s = c.args.text.now in
    let i = c.loop-x.x-index in
    let n = count_next c.args.b s i c.loop-x-test.true in
    let h = c.loop-x.invariant in
    (omega (arith, n, h.0, c.from-count.ensures), omega (arith, h.1, c.from-count.ensures, bit_small (eqb (get_or s i 0) c.args.b)))

pub returns : goal.returns
returns c = omega (arith, c.loop-x.invariant.0, count_end c.args.b c.args.text.now c.loop-x.x-index c.loop-x-test.false)
