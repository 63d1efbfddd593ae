use Rattle.std.proofs.Common.{rules}
use Rattle.variables.proofs.Dropping.{in_order}
use Rattle.variables.proofs.gathering.order.Goals as goal

pub returns : goal.returns
returns c =
    let s = c.split_at_mut-places.ensures in
    let o = c.sort_by_texts.ensures in
    in_order _ _ _ c.gather_list.ensures.named s.value s.front_len o.sorted o.len o.rest c.drop_repeats.ensures (search rules)
