use Rattle.std.proofs.Common.{sym, rules, ◌∙◌}
use Rattle.printing.proofs.Puts.{filled}
use Rattle.printing.proofs.output.Output.decimal.Goals as goal

pub returns : goal.returns
returns c = c.put.ensures _ (sym c.width_of.ensures) (λ p q l h. filled p.now (l ∙ c.width_of.ensures) (search rules))
