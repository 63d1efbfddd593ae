use mathlib.Core.Path.{refl, ap}
use Rattle.rules.specs.Tree.{size}
use native.Mathlib.Omega.{arith}
use Prim.Native.Nat.{◌+◌, ◌*◌}
use lib.Seq.{length-take-le}
use Rattle.tree.proofs.Lists.{count_size}
use Rattle.tree.proofs.Parting.{parted, part_arena, part_tree, joined_arena}
use Rattle.sums.proofs.Readying.{prepares, whole_length}
use Rattle.sums.proofs.prepare_at.Goals as goal

pub invariant_of-trees : goal.invariant_of-trees
invariant_of-trees c =
    let a = c.args.area.now in
    let p = c.split_at_mut-cells.ensures in
    record { arena = part_arena (parted _ _ _ _ p.value p.front_len) a.free (omega (arith, c.requires.room)) a.sheet.now a.arena }

pub cancel_in-mid-requires-clause-small : goal.cancel_in-mid-requires-clause-small
cancel_in-mid-requires-clause-small c =
    let a = c.args.area.now in
    let q = c.requires.cells in
    let p = c.split_at_mut-cells.ensures in
    let x = part_tree (parted _ _ _ _ p.value p.front_len) a.free (omega (arith, c.requires.room)) a.sheet.now a.arena c.args.left q.0.0 q.0.1 in
    let y = part_tree (parted _ _ _ _ p.value p.front_len) a.free (omega (arith, c.requires.room)) a.sheet.now a.arena c.args.right q.1.0 q.1.1 in
    rw (x, y) c.requires.small

pub cancel_in-mid-requires-clause-room : goal.cancel_in-mid-requires-clause-room
cancel_in-mid-requires-clause-room c =
    let a = c.args.area.now in
    let q = c.requires.cells in
    let p = c.split_at_mut-cells.ensures in
    let x = part_tree (parted _ _ _ _ p.value p.front_len) a.free (omega (arith, c.requires.room)) a.sheet.now a.arena c.args.left q.0.0 q.0.1 in
    let y = part_tree (parted _ _ _ _ p.value p.front_len) a.free (omega (arith, c.requires.room)) a.sheet.now a.arena c.args.right q.1.0 q.1.1 in
    let i = count_size a c.args.left q.0.0 q.0.1 c.count_of.ensures.count in
    let j = count_size a c.args.right q.1.0 q.1.1 c.count_of-2.ensures.count in
    let n = length-take-le (17 * (c.count_of.result + c.count_of-2.result) + 2) c.split_at_mut-cells.result.1.now (omega (arith, p.back_len, c.requires.room)) in
    rw (x, y) (omega arith)

pub invariant_of-area : goal.invariant_of-area
invariant_of-area c =
    let a = c.args.area.now in
    let q = c.requires.cells in
    let p = c.split_at_mut-cells.ensures in
    let i = count_size a c.args.left q.0.0 q.0.1 c.count_of.ensures.count in
    let j = count_size a c.args.right q.1.0 q.1.1 c.count_of-2.ensures.count in
    record { arena = joined_arena (parted _ _ _ _ p.value p.front_len) a.free (omega (arith, c.requires.room)) _ (whole_length _ _ _ (omega (arith, p.back_len, c.requires.room)) c.cancel_in-mid.auto.words) a.arena }

pub overflow_add-result : goal.overflow_add-result
overflow_add-result c =
    let a = c.args.area.now in
    let q = c.requires.cells in
    let p = c.split_at_mut-cells.ensures in
    let x = part_tree (parted _ _ _ _ p.value p.front_len) a.free (omega (arith, c.requires.room)) a.sheet.now a.arena c.args.left q.0.0 q.0.1 in
    let y = part_tree (parted _ _ _ _ p.value p.front_len) a.free (omega (arith, c.requires.room)) a.sheet.now a.arena c.args.right q.1.0 q.1.1 in
    let i = count_size a c.args.left q.0.0 q.0.1 c.count_of.ensures.count in
    let j = count_size a c.args.right q.1.0 q.1.1 c.count_of-2.ensures.count in
    omega (arith, c.cancel_in-mid.ensures.high, c.cancel_in-mid.ensures.bound, ap size x, ap size y, c.requires.small, c.requires.room)

pub overflow_add-result-2 : goal.overflow_add-result-2
overflow_add-result-2 c =
    let a = c.args.area.now in
    let q = c.requires.cells in
    let p = c.split_at_mut-cells.ensures in
    let x = part_tree (parted _ _ _ _ p.value p.front_len) a.free (omega (arith, c.requires.room)) a.sheet.now a.arena c.args.left q.0.0 q.0.1 in
    let y = part_tree (parted _ _ _ _ p.value p.front_len) a.free (omega (arith, c.requires.room)) a.sheet.now a.arena c.args.right q.1.0 q.1.1 in
    let i = count_size a c.args.left q.0.0 q.0.1 c.count_of.ensures.count in
    let j = count_size a c.args.right q.1.0 q.1.1 c.count_of-2.ensures.count in
    omega (arith, c.cancel_in-mid.ensures.bound, ap size x, ap size y, c.requires.small, c.requires.room)

pub returns : goal.returns
returns c =
    let a = c.args.area.now in
    let q = c.requires.cells in
    let p = c.split_at_mut-cells.ensures in
    let x = part_tree (parted _ _ _ _ p.value p.front_len) a.free (omega (arith, c.requires.room)) a.sheet.now a.arena c.args.left q.0.0 q.0.1 in
    let y = part_tree (parted _ _ _ _ p.value p.front_len) a.free (omega (arith, c.requires.room)) a.sheet.now a.arena c.args.right q.1.0 q.1.1 in
    let i = count_size a c.args.left q.0.0 q.0.1 c.count_of.ensures.count in
    let j = count_size a c.args.right q.1.0 q.1.1 c.count_of-2.ensures.count in
    prepares (parted _ _ _ _ p.value p.front_len) (omega (arith, c.requires.room)) (omega arith) (omega (arith, p.back_len, c.requires.room)) c.cancel_in-mid.auto.words (record { work = refl; sheet = refl }) refl refl refl refl refl (rw (x, y) at c.cancel_in-mid.ensures)
