use Rattle.tree.specs.Areas.{trees_in}
use Rattle.tree.proofs.Fitting.{word_cell, plain_cell, apply_fits, apply_tree, pushes_as}
use Rattle.tree.proofs.area.Area.push_like.Goals as goal

pub push-requires-clause-fits : goal.push-requires-clause-fits
push-requires-clause-fits c =
    let a = c.args.self.now in
    let k = c.requires.k_cell in
    apply_fits (word_cell a c.args.k k.0.0 k.0.1) (plain_cell a c.args.k k.0.0 k.0.1 k.1) c.requires.links.0 c.requires.links.1 c.requires.count.0 c.requires.count.1

pub returns : goal.returns
returns c = let k = c.requires.k_cell in pushes_as (apply_tree (word_cell c.args.self.now c.args.k k.0.0 k.0.1) (trees_in c.args.self.now c.args.first)) c.push.ensures
