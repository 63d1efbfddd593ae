use Rattle.tree.specs.Areas.{name_in}
use Rattle.tree.specs.Lists.{cells_left}
use Rattle.substitution.proofs.Searching.{Searched}
use Rattle.substitution.proofs.bindings.lookup.Given as goal

-- the bindings from the next cell on answer for all
abbrev pub invariant-loop-key : goal.invariant-loop-key
invariant-loop-key l = Searched l.area (name_in l.area l.x) l.b (cells_left l.cells)
