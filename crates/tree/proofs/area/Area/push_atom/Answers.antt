use Rattle.tree.specs.Areas.{trees_in}
use Rattle.tree.proofs.Fitting.{word_cell, atom_fits, atom_tree, pushes_as}
use Rattle.tree.proofs.area.Area.push_atom.Goals as goal

pub push-requires-clause-fits : goal.push-requires-clause-fits
push-requires-clause-fits c = let k = c.requires.k_cell in atom_fits (word_cell c.args.self.now c.args.k k.0.0 k.0.1) c.requires.letter k.1

pub returns : goal.returns
returns c = let k = c.requires.k_cell in pushes_as (atom_tree (word_cell c.args.self.now c.args.k k.0.0 k.0.1) (trees_in c.args.self.now 0) c.requires.letter) c.push.ensures
