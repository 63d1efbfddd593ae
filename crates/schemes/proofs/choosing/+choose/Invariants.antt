use Rattle.rules.specs.Tree.{sizes}
use Rattle.tree.specs.Areas.{trees_in}
use Rattle.schemes.proofs.choosing.+choose.Given as goal

abbrev pub decreases-choose : goal.decreases-choose
decreases-choose l = sizes (trees_in l.area.now l.i)
