use Rattle.std.proofs.Common.{◌-◌, ◌+◌, arith}
use Rattle.tree.proofs.FixedNames.{unspelled_first, unspelled_zero, unspelled_end}
use Rattle.runs.proofs.order.unspelled_byte.Goals as goal

pub returns-in-0 : goal.returns-in-0
returns-in-0 c = unspelled_first c.args.n c.args.a c.in-0.is

pub returns-in_default : goal.returns-in_default
returns-in_default c = unspelled_zero c.args.n c.args.a (omega arith) (omega arith)

pub returns-in_default-2 : goal.returns-in_default-2
returns-in_default-2 c = unspelled_end c.args.n c.args.a (c.args.a - (65537 + c.args.n)) (omega arith)
