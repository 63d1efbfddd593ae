use Rattle.layout.proofs.Columns.{line_put}
use Rattle.layout.proofs.lines.put_line.Goals as goal

pub returns : goal.returns
returns c =
    let a = c.args in
    let r = c.requires in
    line_put a.output.now a.at a.key a.from a.count r.2 r.3 r.4 c.put_key.ensures c.put_columns.ensures
