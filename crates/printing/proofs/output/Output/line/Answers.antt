use Rattle.printing.proofs.Puts.{line_past, line_over, line_begun, line_ended}
use Rattle.printing.proofs.output.Output.line.Goals as goal

pub returns-in_err-text : goal.returns-in_err-text
returns-in_err-text c = rw c.from_residual.ensures (line_past _ _ c.in_err-text.ensures)

pub returns-in_err-term : goal.returns-in_err-term
returns-in_err-term c = rw c.from_residual-in_err-term.ensures (line_over _ c.in_ok-text.ensures _ c.in_err-term.ensures)

pub end_line-requires : goal.end_line-requires
end_line-requires c = line_begun _ c.in_ok-text.ensures _ c.in_ok-term.ensures

pub returns : goal.returns
returns c = line_ended _ c.in_ok-text.ensures _ c.in_ok-term.ensures c.end_line.ensures
