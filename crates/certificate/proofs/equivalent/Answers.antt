use Rattle.certificate.proofs.Comparisons.{equivalent_by}
use Rattle.certificate.proofs.equivalent.Goals as goal

pub returns-clause-value : goal.returns-clause-value
returns-clause-value c = rw c.is_eq.ensures (equivalent_by _ _ c.in_ok-order.ensures.value)
