use Rattle.layout.proofs.Columns.{heading_put}
use Rattle.layout.proofs.lines.put_heading.Goals as goal

pub returns : goal.returns
returns c = heading_put c.args.output.now c.args.at c.args.number c.requires (rw (c.copy_from_slice.ensures.after, c.digit.ensures, c.digit-2.ensures, c.digit-3.ensures, c.digit-4.ensures)) c.end_line.ensures
