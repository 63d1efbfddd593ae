use Rattle.std.proofs.Common.{refl, arith}
use Rattle.printing.proofs.Puts.{puts_uncounted, puts_told, puts_counted}
use Rattle.printing.proofs.output.Output.end_line.Goals as goal

pub returns-in_err-text : goal.returns-in_err-text
returns-in_err-text c = rw c.from_residual.ensures (puts_uncounted c.in_err-text.ensures)

pub overflow_add-self-2 : goal.overflow_add-self-2
overflow_add-self-2 c = omega (arith, puts_told c.in_ok-text.ensures)

pub invariant_of-self-clause-counted : goal.invariant_of-self-clause-counted
invariant_of-self-clause-counted c = omega (arith, puts_told c.in_ok-text.ensures)

pub returns : goal.returns
returns c = puts_counted _ c.in_ok-text.ensures refl refl refl refl (omega arith)
