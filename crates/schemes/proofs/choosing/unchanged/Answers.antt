use mathlib.Core.Path.{◌∙◌}
use Rattle.tree.specs.Areas.{trees_in}
use Rattle.schemes.proofs.Lining.{leaf_kind, over_leaf, keeps_leaf}
use Rattle.schemes.proofs.choosing.unchanged.Goals as goal

pub returns-in-Variable : goal.returns-in-Variable
returns-in-Variable c =
    let a = c.args.area.now in
    keeps_leaf c.args.i c.requires.cells.0.0 c.requires.cells.0.1 (over_leaf a c.args.i (trees_in a c.args.first) (λ h. leaf_kind c.kind.result c.in-Variable.is (c.kind.ensures ∙ h)))
