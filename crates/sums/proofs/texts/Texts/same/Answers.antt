use mathlib.Core.Path.{refl, ◌∙◌}
use Rattle.sums.proofs.texts.Texts.same.Goals as goal

pub returns : goal.returns
returns c = c.one_text.ensures ∙ rw (c.text.ensures, c.text-2.ensures) refl
