use Rattle.rules.specs.Tree.{sizes}
use Rattle.tree.specs.Areas.{trees_in}
use Rattle.tree.proofs.area.Area.+nodes_below.Given as goal

abbrev pub decreases-nodes_below : goal.decreases-nodes_below
decreases-nodes_below l = sizes (trees_in l.self.now l.list)
