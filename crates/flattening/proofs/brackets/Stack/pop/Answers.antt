use Rattle.std.proofs.Common.{refl}
use Rattle.flattening.proofs.WriterSteps.{pops}
use Rattle.flattening.proofs.brackets.Stack.pop.Goals as goal

pub returns : goal.returns
returns c = rw c.of.ensures (pops c.args.self.now _ c.requires.0 refl refl)
