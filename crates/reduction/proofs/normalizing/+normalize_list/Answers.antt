use Prim.Native.Nat.{◌<◌}
use native.Mathlib.Omega.{arith}
use mathlib.Core.Path.{sym, ap, ◌∙◌}
use Rattle.rules.specs.Tree.{size}
use Rattle.tree.specs.Areas.{tree_in}
use Rattle.tree.proofs.Decoding.{size_pos}
use Rattle.tree.proofs.Keeping.{grows_kind, grows_length}
use Rattle.tree.proofs.ByKind.{nodes_application}
use Rattle.tree.proofs.Lists.{list_size}
use Rattle.reduction.proofs.Becoming.{becomes_put, becomes_leaf, listed_size, listed_end, becomes_root, becomes_none, later_tree, becomes_more}
use Rattle.reduction.proofs.normalizing.+normalize_list.Goals as goal

pub returns-then-list-eq0 : goal.returns-then-list-eq0
returns-then-list-eq0 t c = becomes_none c.args.area.now c.args.list c.if-list-eq0.true

pub normalize_list-next-requires : goal.normalize_list-next-requires
normalize_list-next-requires t c =
    let r = c.requires in
    let z = list_size c.args.area.now c.args.list (omega (arith, c.if-list-eq0.false)) r.list c.next_of-rest.ensures.next in
    let b = c.next_of-rest.ensures.below in
    (omega (arith, c.decreases, b), (omega (arith, b, r.list), (omega (arith, z, r.small), (omega (arith, z, r.room.0), omega (arith, z, r.room.1)))))

pub normalize_list-first-requires : goal.normalize_list-first-requires
normalize_list-first-requires t c =
    let r = c.requires in
    let p : 0 < c.args.list = omega (arith, c.if-list-eq0.false) in
    let d = c.normalize_list-next.ensures in
    let z = list_size c.args.area.now c.args.list p r.list c.next_of-rest.ensures.next in
    let y = ap size (later_tree c.args.area.now c.args.list c.next_of-rest.result p r.list c.next_of-rest.ensures.next d) in
    let x = nodes_application c.normalize_list-next.new.area c.args.list (sym c.in-Application.ensures) c.first_of-children.ensures.first in
    let b = c.first_of-children.ensures.below in
    (omega (arith, c.decreases, b), (omega (arith, b, d.grows.grew, r.list), (omega (arith, x, y, z, r.small), (omega (arith, x, y, z, d.used, grows_length d.grows, r.room.0), omega (arith, x, y, z, d.used, r.room.1)))))

pub root-requires-clause-application : goal.root-requires-clause-application
root-requires-clause-application t c =
    grows_kind c.normalize_list-first.ensures.grows c.args.list (omega (arith, c.normalize_list-next.ensures.grows.grew, c.requires.list)) ∙ sym c.in-Application.ensures

pub root-requires-clause-small : goal.root-requires-clause-small
root-requires-clause-small t c =
    let r = c.requires in
    let p : 0 < c.args.list = omega (arith, c.if-list-eq0.false) in
    let z = list_size c.args.area.now c.args.list p r.list c.next_of-rest.ensures.next in
    let y = ap size (later_tree c.args.area.now c.args.list c.next_of-rest.result p r.list c.next_of-rest.ensures.next c.normalize_list-next.ensures) in
    let x = listed_size c.normalize_list-next.new.area c.args.list c.first_of-children.result (sym c.in-Application.ensures) c.first_of-children.ensures.first c.normalize_list-first.ensures in
    omega (arith, x, y, z, r.small)

pub root-requires-clause-room : goal.root-requires-clause-room
root-requires-clause-room t c =
    let r = c.requires in
    let p : 0 < c.args.list = omega (arith, c.if-list-eq0.false) in
    let d = c.normalize_list-next.ensures in
    let e = c.normalize_list-first.ensures in
    let z = list_size c.args.area.now c.args.list p r.list c.next_of-rest.ensures.next in
    let y = ap size (later_tree c.args.area.now c.args.list c.next_of-rest.result p r.list c.next_of-rest.ensures.next d) in
    let x = listed_end c.normalize_list-next.new.area c.args.list c.first_of-children.result (sym c.in-Application.ensures) c.first_of-children.ensures.first e in
    (omega (arith, x, y, z, d.used, grows_length d.grows, grows_length e.grows, r.room.0), omega (arith, x, y, z, d.used, r.room.1))

pub keep-requires : goal.keep-requires
keep-requires t c =
    let r = c.requires in
    let p : 0 < c.args.list = omega (arith, c.if-list-eq0.false) in
    let d = c.normalize_list-next.ensures in
    let z = list_size c.args.area.now c.args.list p r.list c.next_of-rest.ensures.next in
    let x = size_pos (tree_in c.args.area.now c.args.list) in
    record { cells = ((p, omega (arith, d.grows.grew, r.list)), d.inside); room = (omega (arith, x, z, d.used, grows_length d.grows, r.room.0), omega (arith, x, z, d.used, r.room.1)) }

pub returns-in-Application : goal.returns-in-Application
returns-in-Application t c =
    let r = c.requires in
    let p : 0 < c.args.list = omega (arith, c.if-list-eq0.false) in
    let d = c.normalize_list-next.ensures in
    becomes_more c.args.area.now c.args.list c.next_of-rest.result p r.list c.next_of-rest.ensures.next d
    (becomes_root c.normalize_list-next.new.area c.args.list c.first_of-children.result (sym c.in-Application.ensures) c.first_of-children.ensures.first c.normalize_list-first.ensures (omega (arith, d.grows.grew, r.list)) d.inside c.root.ensures)

pub returns-in-Variable : goal.returns-in-Variable
returns-in-Variable t c =
    let r = c.requires in
    let p : 0 < c.args.list = omega (arith, c.if-list-eq0.false) in
    becomes_more c.args.area.now c.args.list c.next_of-rest.result p r.list c.next_of-rest.ensures.next c.normalize_list-next.ensures
    (becomes_leaf c.normalize_list-next.new.area c.args.list c.kind.ensures c.in-Variable.is (becomes_put c.keep.ensures.puts c.keep.ensures.end))
