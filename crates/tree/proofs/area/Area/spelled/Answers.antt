use native.Mathlib.Omega.{arith}
use Rattle.tree.proofs.Naming.{part_to}
use Rattle.tree.proofs.area.Area.spelled.Goals as goal

pub returns : goal.returns
returns c = part_to _ _ c.args.k (omega (arith, c.if-len-eq0.false, c.length_of-len.ensures)) c.start_of-start.ensures c.length_of-len.ensures
