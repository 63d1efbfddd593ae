use Rattle.fresh.proofs.ChoosingLaws.{WritingIn}
use Rattle.fresh.proofs.cells.fresh_cells.Given as goal

abbrev pub invariant-loop-n : goal.invariant-loop-n
invariant-loop-n l = WritingIn l.initial.area l.area l.base l.n
