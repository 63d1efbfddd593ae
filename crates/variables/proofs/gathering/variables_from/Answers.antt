use mathlib.Core.Path.{refl, ap}
use native.Mathlib.Omega.{arith}
use Rattle.rules.specs.Tree.{sizes}
use Rattle.tree.proofs.Parting.{parted, part_arena, part_trees, joined_arena}
use Rattle.variables.proofs.Collecting.{gathers_all}
use Rattle.variables.proofs.gathering.variables_from.Goals as goal

pub invariant_of-trees : goal.invariant_of-trees
invariant_of-trees c =
    let a = c.args.area.now in
    let p = c.split_at_mut-cells.ensures in
    record { arena = part_arena (parted _ _ _ _ p.value p.front_len) a.free (omega (arith, c.requires.room.0)) a.sheet.now a.arena }

pub order-count-requires-clause-list : goal.order-count-requires-clause-list
order-count-requires-clause-list c =
    let a = c.args.area.now in
    let p = c.split_at_mut-cells.ensures in
    rw (part_trees (parted _ _ _ _ p.value p.front_len) a.free (omega (arith, c.requires.room.0)) a.sheet.now a.arena c.args.list c.requires.list.0) c.requires.list

pub order-count-requires-clause-room : goal.order-count-requires-clause-room
order-count-requires-clause-room c =
    let a = c.args.area.now in
    let p = c.split_at_mut-cells.ensures in
    rw (part_trees (parted _ _ _ _ p.value p.front_len) a.free (omega (arith, c.requires.room.0)) a.sheet.now a.arena c.args.list c.requires.list.0) (omega (arith, c.requires.room.0, c.requires.room.1, p.back_len))

pub invariant_of-area : goal.invariant_of-area
invariant_of-area c =
    let a = c.args.area.now in
    let p = c.split_at_mut-cells.ensures in
    record { arena = joined_arena (parted _ _ _ _ p.value p.front_len) a.free (omega (arith, c.requires.room.0)) _ c.order-count.ensures.kept.len a.arena }

pub overflow_add-result : goal.overflow_add-result
overflow_add-result c =
    let a = c.args.area.now in
    let p = c.split_at_mut-cells.ensures in
    let t = part_trees (parted _ _ _ _ p.value p.front_len) a.free (omega (arith, c.requires.room.0)) a.sheet.now a.arena c.args.list c.requires.list.0 in
    omega (arith, c.order-count.ensures.most_is, ap sizes t, c.requires.room.0, c.requires.room.1)

pub returns : goal.returns
returns c =
    let p = c.split_at_mut-cells.ensures in
    gathers_all (parted _ _ _ _ p.value p.front_len) (omega (arith, c.requires.room.0)) c.requires.list.0 c.order-count.ensures (record { work = refl; sheet = refl }) refl refl
