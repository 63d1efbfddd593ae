use mathlib.Core.Path.{sym, ap, ◌∙◌}
use mathlib.Core.Bool.{not}
use native.Mathlib.Omega.{arith}
use borrow.Author.Tests.{eq-eqb, ne_eqb}
use Rattle.variants.proofs.NameLaws.{nameable_none, nameable_one, nameable_more}
use Rattle.variants.proofs.members.is_nameable.Goals.{in_default, in_default-2, in-empty, in-empty-2}
use Rattle.variants.proofs.members.is_nameable.Goals as goal

pub returns : goal.returns
returns c = elim c.if-matches.branch [
  | in_default w ↦ ap not w.matches-is ∙ nameable_one c.args.text.now (omega arith)
  | in_default-2 w ↦ ap not (w.matches-is ∙ sym (ne_eqb _ 40 (λ e. omega arith))) ∙ nameable_more c.args.text.now (λ e. omega arith)
  | in-empty w ↦ ap not w.matches-is ∙ nameable_none c.args.text.now (omega arith)
  | in-empty-2 w ↦ ap not (w.matches-is ∙ sym (eq-eqb _ 40 (omega arith))) ∙ nameable_more c.args.text.now (λ e. omega arith)
]
