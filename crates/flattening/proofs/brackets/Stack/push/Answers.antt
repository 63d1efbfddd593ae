use Rattle.std.proofs.Common.{refl}
use Rattle.flattening.proofs.WriterSteps.{pushed}
use Rattle.flattening.proofs.brackets.Stack.push.Goals as goal

pub returns : goal.returns
returns c = pushed c.args.self.now _ _ c.args.bracket c.requires refl refl refl c.number.ensures
