use Rattle.std.proofs.Common.{arith}
use Rattle.answers.specs.Deciding.{lines_text}
use Rattle.printing.proofs.Lengths.{told_over}
use Rattle.printing.proofs.Puts.{puts_told}
use Rattle.pages.proofs.Held.{lines_columned, lines_pages, page_room}
use Rattle.pages.proofs.measure.Goals as goal

pub returns-in_err-put_lines-clause-needs : goal.returns-in_err-put_lines-clause-needs
returns-in_err-put_lines-clause-needs c =
    let a = c.args in
    rw c.from_residual.ensures (omega (arith, told_over c.in_err-put_lines.ensures.end, page_room (lines_text a.area.now a.lines) (lines_columned a.area.now a.lines c.requires.columned)))

pub returns-then-pages-gt9999-clause-needs : goal.returns-then-pages-gt9999-clause-needs
returns-then-pages-gt9999-clause-needs c =
    let a = c.args in
    omega (arith, puts_told c.in_ok-put_lines.ensures, lines_pages a.area.now a.lines c.requires.columned, c.if-pages-gt9999.true)

pub returns-clause-needs : goal.returns-clause-needs
returns-clause-needs c =
    let a = c.args in
    let p = puts_told c.in_ok-put_lines.ensures in
    (omega (arith, p), omega (arith, p, lines_pages a.area.now a.lines c.requires.columned), omega (arith, c.if-pages-gt9999.false))
