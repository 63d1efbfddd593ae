use Rattle.rules.specs.Tree.{sizes}
use Rattle.tree.specs.Areas.{trees_in}
use Rattle.schemes.proofs.counting.+count_list.Given as goal

abbrev pub decreases-count_list : goal.decreases-count_list
decreases-count_list l = sizes (trees_in l.area.now l.i)
