use mathlib.Core.Path.{◌∙◌}
use Rattle.tree.specs.Areas.{tree_in, trees_in}
use Rattle.schemes.proofs.Counts.{own_ways}
use Rattle.schemes.proofs.counting.ways_at.Goals as goal

pub returns : goal.returns
returns c =
    let a = c.args.area.now in
    c.choices.ensures ∙ c.rule_at.ensures.ways ∙ own_ways (tree_in a c.args.i) (trees_in a c.child_of.result) c.child_of.ensures.children
