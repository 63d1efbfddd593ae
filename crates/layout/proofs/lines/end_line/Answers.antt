use Rattle.layout.proofs.Columns.{blanks_put}
use Rattle.layout.proofs.lines.end_line.Goals as goal

pub returns : goal.returns
returns c = blanks_put c.args.output.now c.args.from c.args.to c.requires.0 c.requires.1 (c.fill.ensures.after (λ y e. e))
