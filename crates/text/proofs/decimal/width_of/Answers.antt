use Rattle.std.proofs.Common.{rules}
use Rattle.text.proofs.Decimals.{width_told}
use Rattle.text.proofs.decimal.width_of.Goals as goal

pub returns : goal.returns
returns c =
    let l = c.checked_ilog10.ensures in
    width_told c.args.n c.checked_ilog10.result _ l.none l.power_le l.next_power_gt c.map_or.ensures (λ k h. search rules)
