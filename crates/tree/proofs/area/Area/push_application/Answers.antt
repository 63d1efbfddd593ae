use Rattle.tree.specs.Areas.{trees_in}
use Rattle.tree.proofs.Fitting.{word_spelled, apply_fits, apply_tree, pushes_as}
use Rattle.tree.proofs.area.Area.push_application.Goals as goal

pub push-requires-clause-fits : goal.push-requires-clause-fits
push-requires-clause-fits c =
    apply_fits (word_spelled c.args.self.now.sheet.now c.args.name c.requires.name c.word.ensures) c.requires.name.plain c.requires.links.0 c.requires.links.1 c.requires.count.0 c.requires.count.1

pub returns : goal.returns
returns c = pushes_as (apply_tree (word_spelled c.args.self.now.sheet.now c.args.name c.requires.name c.word.ensures) (trees_in c.args.self.now c.args.first)) c.push.ensures
