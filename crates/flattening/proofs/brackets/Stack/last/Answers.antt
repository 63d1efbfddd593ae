use Rattle.std.proofs.Common.{◌∙◌}
use Rattle.flattening.proofs.WriterSteps.{last_none, last_some}
use Rattle.flattening.proofs.brackets.Stack.last.Goals as goal

pub returns-then-self-eq0 : goal.returns-then-self-eq0
returns-then-self-eq0 c = last_none c.args.self.now c.if-self-eq0.true

pub returns : goal.returns
returns c = c.of.ensures ∙ last_some c.args.self.now c.if-self-eq0.false
