use Rattle.tree.specs.Areas.{trees_in}
use Rattle.std.specs.Prelude.{Some}
use Rattle.rules.specs.declared.Sort.TheVariants.{Msg}
use Rattle.tree.proofs.Fitting.{unspelled_word, unspelled_fits, variable_tree, pushes_as}
use Rattle.tree.proofs.area.Area.push_unspelled.Goals as goal

pub push-requires-clause-fits : goal.push-requires-clause-fits
push-requires-clause-fits c = unspelled_fits c.requires.n_bound.0 c.requires.n_bound.1

pub returns : goal.returns
returns c = pushes_as (variable_tree (unspelled_word c.args.self.now.sheet.now c.args.n c.requires.n_bound.0) (trees_in c.args.self.now 0) (Some Msg)) c.push.ensures
