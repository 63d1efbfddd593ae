use Rattle.printing.proofs.Puts.{puts_then, puts_past, puts_uncounted}
use Rattle.substitution.specs.Areas.{bindings_in}
use Rattle.verdicts.proofs.VerdictLines.{solved_lines, solved_count, stopped_lines, stopped_count}
use Rattle.verdicts.proofs.put_answer.Goals as goal

pub returns-in_err-put_head-in-Ok : goal.returns-in_err-put_head-in-Ok
returns-in_err-put_head-in-Ok c =
    let a = c.args in
    rw (c.from_residual.ensures, c.in-Ok.is, solved_lines (bindings_in a.area.now c.in-Ok.bindings) a.answer.spent) (puts_uncounted (puts_past _ c.in_err-put_head-in-Ok.ensures))

pub returns-in_ok-put_head-in-Ok : goal.returns-in_ok-put_head-in-Ok
returns-in_ok-put_head-in-Ok c =
    let a = c.args in
    let bs = bindings_in a.area.now c.in-Ok.bindings in
    rw (c.in-Ok.is, solved_lines bs a.answer.spent, ← solved_count bs a.answer.spent) (puts_then c.in_ok-put_head-in-Ok.ensures c.put_bindings.ensures)

pub returns-in-Err : goal.returns-in-Err
returns-in-Err c =
    let n = c.args.answer.spent in
    rw (c.in-Err.is, stopped_lines c.in-Err.ending n, ← stopped_count c.in-Err.ending n, ← c.word_of.ensures) c.put_head-in-Err.ensures
