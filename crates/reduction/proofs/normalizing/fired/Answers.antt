use mathlib.Core.Path.{sym}
use Rattle.reduction.proofs.NormalForms.{root_by, root_none}
use Rattle.reduction.proofs.normalizing.fired.Goals as goal

pub returns-in_err-rule-clause-fires : goal.returns-in_err-rule-clause-fires
returns-in_err-rule-clause-fires c = rw c.from_residual.ensures (root_none _ _ (sym c.in_err-rule.ensures))

pub returns-clause-fires : goal.returns-clause-fires
returns-clause-fires c = root_by _ _ c.in_ok-rule.rule _ (sym c.in_ok-rule.ensures) c.fire.ensures.fires
