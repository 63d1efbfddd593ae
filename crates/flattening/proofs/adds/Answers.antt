use Rattle.std.proofs.Common.{ap, ◌∙◌}
use Rattle.rules.specs.Bytes.{same}
use Rattle.rules.specs.Tree.{tamtplus}
use Rattle.text.proofs.Library.{same_is}
use Rattle.flattening.proofs.WriterSteps.{adds_is}
use Rattle.flattening.proofs.adds.Goals as goal

pub returns : goal.returns
returns c = c.eq.ensures ∙ same_is _ _ ∙ ap (λ n. same n tamtplus) c.text.ensures ∙ adds_is c.args.sheet.now c.args.name c.requires.0 c.requires.2
