use mathlib.Core.Path.{sym, ap, ◌∙◌}
use Rattle.rules.specs.Maybe.{◌>>=◌, guard}
use Rattle.rules.specs.Reduction.{arguments0, is_constant}
use Rattle.rewriting.proofs.Arguments.{no_children}
use Rattle.rewriting.proofs.naming.is_constant.Goals as goal

pub returns : goal.returns
unfolding is_constant
returns c = ap (λ o. o >>= arguments0) c.arguments_of.ensures.trees ∙ no_children c.args.area.now c.arguments_of.result c.arguments_of.ensures.list ∙ ap guard (sym c.eq.ensures)
