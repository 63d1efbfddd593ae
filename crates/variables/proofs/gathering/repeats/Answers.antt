use mathlib.Core.Path.{ap₂, ◌∙◌}
use Rattle.rules.specs.Bytes.{same}
use Rattle.text.proofs.Library.{same_is}
use Rattle.variables.proofs.Collecting.{few_texts, two_texts}
use Rattle.variables.proofs.gathering.repeats.Goals as goal

pub returns-in_default : goal.returns-in_default
returns-in_default c = few_texts c.args.sheet.now c.args.places.now c.in_default.len_below

pub returns-in-len2-up : goal.returns-in-len2-up
returns-in-len2-up c = c.eq.ensures ∙ same_is _ _ ∙ ap₂ same c.text_at.ensures c.text_at-in-len2-up.ensures ∙ two_texts c.args.sheet.now c.args.places.now c.in-len2-up.len_at_least
