use mathlib.Core.Path.{refl, sym, ◌∙◌}
use Rattle.variables.proofs.Dropping.{dropping_starts, dropping_skips, dropping_keeps, dropped}
use Rattle.variables.proofs.gathering.drop_repeats.Goals as goal

pub loop-i-init : goal.loop-i-init
loop-i-init c = dropping_starts c.args.sheet.now c.args.places.now

pub loop-i-preserved-then-repeats : goal.loop-i-preserved-then-repeats
loop-i-preserved-then-repeats c = dropping_skips c.loop-i.invariant c.loop-i-test.true (sym c.if-repeats.true ∙ c.repeats.ensures)

pub loop-i-preserved : goal.loop-i-preserved
loop-i-preserved c = dropping_keeps c.loop-i.invariant c.loop-i-test.true (sym c.if-repeats.false ∙ c.repeats.ensures) refl

pub returns : goal.returns
returns c = dropped c.loop-i-test.false c.loop-i.invariant
