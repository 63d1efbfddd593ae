use Rattle.std.proofs.Common.{sym, rules, ◌∙◌}
use Rattle.printing.proofs.Puts.{filled}
use Rattle.printing.proofs.output.Output.name.Goals as goal

pub returns : goal.returns
returns c = c.put.ensures _ (sym c.name_len.ensures.len) (λ p q l h. filled p.now (l ∙ c.name_len.ensures.len) (search rules))
