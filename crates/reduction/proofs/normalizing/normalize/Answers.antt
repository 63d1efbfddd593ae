use Rattle.std.proofs.Common.{rules}
use native.Mathlib.Omega.{arith}
use mathlib.Core.Path.{sym, ◌∙◌}
use Rattle.tree.specs.Areas.{tree_in}
use Rattle.tree.proofs.Decoding.{size_pos}
use Rattle.tree.proofs.Keeping.{grows_kind, grows_length}
use Rattle.tree.proofs.ByKind.{nodes_application}
use Rattle.reduction.proofs.Becoming.{becomes_put, becomes_leaf, listed_size, listed_end, becomes_root}
use Rattle.reduction.proofs.normalizing.normalize.Goals as goal

pub normalize_list-first-requires : goal.normalize_list-first-requires
normalize_list-first-requires c =
    let r = c.requires in
    let z = nodes_application c.args.area.now c.args.i (sym c.in-Application.ensures) c.first_of-children.ensures.first in
    let b = c.first_of-children.ensures.below in
    record { list = omega (arith, b, r.cells.0.1); small = omega (arith, z, r.small); room = (omega (arith, z, r.room.0), omega (arith, z, r.room.1)) }

pub root-requires-clause-application : goal.root-requires-clause-application
root-requires-clause-application c = grows_kind c.normalize_list-first.ensures.grows c.args.i c.requires.cells.0.1 ∙ sym c.in-Application.ensures

pub root-requires-clause-small : goal.root-requires-clause-small
root-requires-clause-small c =
    let z = listed_size c.args.area.now c.args.i c.first_of-children.result (sym c.in-Application.ensures) c.first_of-children.ensures.first c.normalize_list-first.ensures in
    omega (arith, z, c.requires.small)

pub root-requires-clause-room : goal.root-requires-clause-room
root-requires-clause-room c =
    let d = c.normalize_list-first.ensures in
    let z = listed_end c.args.area.now c.args.i c.first_of-children.result (sym c.in-Application.ensures) c.first_of-children.ensures.first d in
    (omega (arith, z, grows_length d.grows, c.requires.room.0), omega (arith, z, c.requires.room.1))

pub keep-requires : goal.keep-requires
keep-requires c =
    let r = c.requires in
    let z = size_pos (tree_in c.args.area.now c.args.i) in
    record { cells = r.cells; room = (omega (arith, z, r.room.0), omega (arith, z, r.room.1)) }

pub returns-in-Application : goal.returns-in-Application
returns-in-Application c =
    becomes_root c.args.area.now c.args.i c.first_of-children.result (sym c.in-Application.ensures) c.first_of-children.ensures.first c.normalize_list-first.ensures c.requires.cells.0.1 c.requires.cells.1 (search rules)

pub returns-in-Variable : goal.returns-in-Variable
returns-in-Variable c =
    becomes_leaf c.args.area.now c.args.i c.kind.ensures c.in-Variable.is (becomes_put c.keep.ensures.puts c.keep.ensures.end)
