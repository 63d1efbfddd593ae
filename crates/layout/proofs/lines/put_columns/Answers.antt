use Rattle.layout.proofs.Columns.{columns_put}
use Rattle.layout.proofs.lines.put_columns.Goals as goal

pub returns : goal.returns
returns c =
    let a = c.args in
    let r = c.requires in
    columns_put a.output.now a.from a.count a.at a.to r.1 r.2 r.3 c.copy_within.ensures.after (c.fill.ensures.after (λ y e. e))
