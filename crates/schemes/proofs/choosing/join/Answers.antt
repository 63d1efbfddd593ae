use native.Mathlib.Omega.{arith}
use mathlib.Core.Path.{ap}
use Rattle.rules.specs.Tree.{count}
use Rattle.tree.proofs.Keeping.{adds_grows, grows_trees}
use Rattle.schemes.proofs.Lining.{follows}
use Rattle.schemes.proofs.choosing.join.Goals as goal

pub append-equations-requires-clause-room : goal.append-equations-requires-clause-room
append-equations-requires-clause-room c =
    let k = c.keep-values.ensures in
    let e = ap count (grows_trees (adds_grows k.puts.adds) c.args.equations c.requires.cells.1) in
    (omega (arith, k.end, k.puts.adds.grown.len, e, c.requires.room.0), omega (arith, k.end, e, c.requires.room.1))

pub returns : goal.returns
returns c =
    let k = c.keep-values.ensures in
    follows c.args.value c.args.equations c.requires.cells.1 c.requires.cells.3 k.puts k.end c.append-equations.ensures
