use Rattle.schemes.proofs.Equating.{pair_on}
use Rattle.schemes.proofs.firing.unseal.Goals as goal

pub returns-clause-lists : goal.returns-clause-lists
returns-clause-lists c =
    let g = c.push_pair-keys.ensures.lists in
    let k = c.requires.cells in
    rw (← c.next_of-key.ensures.next) (pair_on g.adds c.args.i k.0.0 k.0.1 c.args.pattern c.push_pair-keys.result k.2.0 k.2.1 g.trees c.push_pair.ensures.lists)
