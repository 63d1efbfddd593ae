use native.Mathlib.Omega.{arith}
use mathlib.Core.Path.{◌≡◌, refl}
use Rattle.layout.proofs.Columns.{blanks_none, blanks_more, blanks_all}
use Rattle.layout.proofs.lines.put_blank_lines.Goals as goal

pub loop-i-init : goal.loop-i-init
loop-i-init c = blanks_none c.args.output.now c.args.at

pub loop-i-preserved : goal.loop-i-preserved
loop-i-preserved c = blanks_more c.args.output.now c.args.at c.loop-i.i (omega arith) c.loop-i.invariant refl c.end_line.ensures

pub returns : goal.returns
returns c =
    let e : c.loop-i.i ≡ c.args.count = omega arith in
    blanks_all c.args.output.now c.args.at e c.loop-i.invariant
