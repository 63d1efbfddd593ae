use Rattle.schemes.proofs.Equating.{pair_later}
use Rattle.tree.proofs.Keeping.{adds_grows, grows_trees}
use Rattle.schemes.proofs.firing.split.Goals as goal

pub returns-clause-lists : goal.returns-clause-lists
returns-clause-lists c =
    let g = c.plain-pair.ensures.puts in
    let k = c.requires.cells in
    pair_later g.adds c.args.i k.0.0 k.0.1 c.plain-pair.result c.args.list g.tree (grows_trees (adds_grows g.adds) c.args.list k.1) c.push_pair.ensures.lists
