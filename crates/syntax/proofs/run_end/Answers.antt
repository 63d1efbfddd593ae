use mathlib.Core.Path.{sym, ◌∙◌}
use native.Mathlib.Omega.{arith}
use Rattle.syntax.proofs.Runs.{run_on, run_stops, run_past}
use Rattle.syntax.proofs.run_end.Goals as goal

pub loop-end-preserved : goal.loop-end-preserved
loop-end-preserved g c = omega (arith, c.loop-end.invariant, run_on g.C.Class.has c.args.text.now c.loop-end.end c.loop-end-test.true (sym c.if-has.true ∙ c.has.ensures))

pub returns-else-has : goal.returns-else-has
returns-else-has g c = omega (arith, c.loop-end.invariant, run_stops g.C.Class.has c.args.text.now c.loop-end.end c.loop-end-test.true (sym c.if-has.false ∙ c.has.ensures))

pub returns-after-loop-end : goal.returns-after-loop-end
returns-after-loop-end g c = omega (arith, c.loop-end.invariant, run_past g.C.Class.has c.args.text.now c.loop-end.end (omega (arith, c.loop-end-test.false)))
