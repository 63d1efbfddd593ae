use native.Mathlib.Omega.{arith}
use Rattle.rewriting.proofs.Arguments.{second_alone}
use Rattle.rewriting.proofs.naming.two_arguments.Goals as goal

pub returns-clause-trees : goal.returns-clause-trees
returns-clause-trees c = second_alone c.args.area.now c.args.list (omega (arith, c.if-list-eq0.false)) c.requires c.one_argument.result c.next_of.ensures.next c.one_argument.ensures.tree
