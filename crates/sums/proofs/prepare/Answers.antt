use native.Mathlib.Omega.{arith}
use Rattle.tree.proofs.Lists.{count_size}
use Rattle.sums.proofs.prepare.Goals as goal

pub prepare_at-requires-clause-room : goal.prepare_at-requires-clause-room
prepare_at-requires-clause-room c =
    let a = c.args.area.now in
    let q = c.requires.cells in
    let i = count_size a c.args.left q.0.0 q.0.1 c.count_of.ensures.count in
    let j = count_size a c.args.right q.1.0 q.1.1 c.count_of-2.ensures.count in
    (omega arith, omega (arith, c.requires.room, i, j))

pub returns : goal.returns
returns c =
    let a = c.args.area.now in
    let q = c.requires.cells in
    let i = count_size a c.args.left q.0.0 q.0.1 c.count_of.ensures.count in
    let j = count_size a c.args.right q.1.0 q.1.1 c.count_of-2.ensures.count in
    rw (i, j) at c.prepare_at.ensures
