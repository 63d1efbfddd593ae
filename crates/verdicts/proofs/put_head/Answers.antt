use Rattle.printing.proofs.Puts.{puts_then, puts_past, puts_uncounted}
use Rattle.verdicts.specs.Verdicts.{head_lines}
use Rattle.verdicts.proofs.put_head.Goals as goal

pub returns-in_err-word_line : goal.returns-in_err-word_line
unfolding head_lines
returns-in_err-word_line c = rw c.from_residual.ensures (puts_uncounted (puts_past _ c.in_err-word_line.ensures))

pub returns : goal.returns
unfolding head_lines
returns c = puts_then c.in_ok-word_line.ensures c.number_line.ensures
