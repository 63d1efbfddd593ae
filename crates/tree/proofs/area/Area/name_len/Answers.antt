use mathlib.Core.Path.{ap}
use lib.ListN.{length}
use native.Mathlib.Omega.{arith}
use Rattle.tree.proofs.Naming.{name_short}
use Rattle.tree.proofs.area.Area.name_len.Goals as goal

pub returns-clause-small : goal.returns-clause-small
returns-clause-small c = omega (arith, c.len.ensures, ap length c.name.ensures, name_short c.args.self.now c.args.k c.requires.0 c.requires.1)
