use mathlib.Core.Path.{sym, ◌∙◌}
use native.Mathlib.Omega.{arith}
use Rattle.std.specs.Prelude.{◌+◌, ◌≤◌, length}
use Rattle.layout.proofs.Entering.{none_held, before_block}
use Rattle.layout.proofs.entries.text_length.Goals as goal

pub loop-at-preserved : goal.loop-at-preserved
loop-at-preserved c =
    let at = c.loop-at.at in
    let h : at + 64 ≤ length c.args.text.now = omega (arith, c.loop-at.invariant.0) in
    (h, omega (arith, c.loop-at.invariant.1, before_block 10 64 at c.args.text.now h (none_held _ (sym c.if-not-holds.true ∙ c.holds.ensures))))
