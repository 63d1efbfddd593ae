use Rattle.tree.proofs.Fitting.{shared_fits, shared_tree, pushes_as}
use Rattle.tree.proofs.area.Area.share.Goals as goal

pub push-requires-clause-fits : goal.push-requires-clause-fits
push-requires-clause-fits c =
    let k = c.requires.k_cell in
    let f = c.first_of.ensures in
    let n = c.count_of.ensures in
    shared_fits c.args.self.now c.args.k c.kind.ensures f.first k.0.0 k.0.1 k.1 n.count n.small f.below

pub returns : goal.returns
returns c = pushes_as (shared_tree c.args.self.now c.args.k c.kind.ensures c.first_of.ensures.first) c.push.ensures
