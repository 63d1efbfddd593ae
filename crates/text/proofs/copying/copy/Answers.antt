use Rattle.text.proofs.Copies.{one_copied}
use Rattle.text.proofs.copying.copy.Goals as goal

pub returns-in-len1 : goal.returns-in-len1
returns-in-len1 g c = one_copied c.args.to.now c.args.from.now _ c.requires c.in-len1.len_at_least c.in-len1.len_below c.one-item.is
