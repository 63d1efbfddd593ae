use native.Mathlib.Omega.{arith}
use mathlib.Core.Path.{refl}
use lib.ListN.{length-set}
use Rattle.tree.proofs.Pushing.{wrote}
use Rattle.tree.proofs.cells.push_cell.Goals as goal

pub bounds-work-at-2 : goal.bounds-work-at-2
bounds-work-at-2 c = simp length-set (omega arith)

pub bounds-work-at-3 : goal.bounds-work-at-3
bounds-work-at-3 c = simp length-set (omega arith)

pub bounds-work-at-4 : goal.bounds-work-at-4
bounds-work-at-4 c = simp length-set (omega arith)

pub returns : goal.returns
returns c =
    let a = c.args in
    (refl, wrote a.work.now a.free a.start a.len a.kind a.first a.next a.count c.requires.free_in_bounds c.requires.start_bound.1 c.requires.start_bound.3)
