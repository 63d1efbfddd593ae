use Rattle.tree.specs.Areas.{trees_in}
use Rattle.tree.proofs.Fitting.{word_spelled, variable_fits, variable_tree, pushes_as}
use Rattle.tree.proofs.area.Area.push_variable.Goals as goal

pub push-requires-clause-fits : goal.push-requires-clause-fits
push-requires-clause-fits c = variable_fits c.args.sort (word_spelled c.args.self.now.sheet.now c.args.name c.requires.name c.word.ensures) c.requires.sort c.requires.name.plain c.requires.link

pub returns : goal.returns
returns c = pushes_as (variable_tree (word_spelled c.args.self.now.sheet.now c.args.name c.requires.name c.word.ensures) (trees_in c.args.self.now 0) c.args.sort) c.push.ensures
