use mathlib.Core.Path.{sym, ap, ◌∙◌}
use native.Mathlib.Omega.{arith}
use Rattle.rules.specs.Tree.{size}
use Rattle.tree.specs.Areas.{tree_in}
use Rattle.tree.proofs.Parting.{parted, part_arena, part_tree, joined_arena, joined_outside}
use Rattle.equivalence.proofs.Comparing.{equivalent_one, equivalent_same}
use Rattle.equivalence.proofs.equivalent_from.Goals as goal

pub returns-then-i-j-clause-value : goal.returns-then-i-j-clause-value
returns-then-i-j-clause-value c = equivalent_one (ap (tree_in c.args.area.now) c.if-i-j.true)

pub returns-then-same_tree-clause-value : goal.returns-then-same_tree-clause-value
returns-then-same_tree-clause-value c =
    let a = c.args.area.now in
    equivalent_same (tree_in a c.args.i) (tree_in a c.args.j) (sym c.if-same_tree.true ∙ c.same_tree.ensures)

pub invariant_of-trees : goal.invariant_of-trees
invariant_of-trees c =
    let a = c.args.area.now in
    let p = c.split_at_mut-cells.ensures in
    record { arena = part_arena (parted _ _ _ _ p.value p.front_len) a.free (omega (arith, c.requires.room)) a.sheet.now a.arena }

pub same_canonical-requires-clause-small : goal.same_canonical-requires-clause-small
same_canonical-requires-clause-small c =
    let a = c.args.area.now in
    let p = c.split_at_mut-cells.ensures in
    let q = c.requires.cells in
    let x = part_tree (parted _ _ _ _ p.value p.front_len) a.free (omega (arith, c.requires.room)) a.sheet.now a.arena c.args.i q.0.0 q.0.1 in
    let y = part_tree (parted _ _ _ _ p.value p.front_len) a.free (omega (arith, c.requires.room)) a.sheet.now a.arena c.args.j q.1.0 q.1.1 in
    rw (x, y) c.requires.small

pub same_canonical-requires-clause-room : goal.same_canonical-requires-clause-room
same_canonical-requires-clause-room c =
    let a = c.args.area.now in
    let p = c.split_at_mut-cells.ensures in
    let q = c.requires.cells in
    let x = part_tree (parted _ _ _ _ p.value p.front_len) a.free (omega (arith, c.requires.room)) a.sheet.now a.arena c.args.i q.0.0 q.0.1 in
    let y = part_tree (parted _ _ _ _ p.value p.front_len) a.free (omega (arith, c.requires.room)) a.sheet.now a.arena c.args.j q.1.0 q.1.1 in
    rw (x, y) (omega (arith, c.requires.room, p.back_len))

pub invariant_of-area : goal.invariant_of-area
invariant_of-area c =
    let a = c.args.area.now in
    let p = c.split_at_mut-cells.ensures in
    record { arena = joined_arena (parted _ _ _ _ p.value p.front_len) a.free (omega (arith, c.requires.room)) _ c.same_canonical.ensures.outside.len a.arena }

pub returns-clause-value : goal.returns-clause-value
returns-clause-value c =
    let a = c.args.area.now in
    let p = c.split_at_mut-cells.ensures in
    let q = c.requires.cells in
    let x = part_tree (parted _ _ _ _ p.value p.front_len) a.free (omega (arith, c.requires.room)) a.sheet.now a.arena c.args.i q.0.0 q.0.1 in
    let y = part_tree (parted _ _ _ _ p.value p.front_len) a.free (omega (arith, c.requires.room)) a.sheet.now a.arena c.args.j q.1.0 q.1.1 in
    rw (x, y) at c.same_canonical.ensures.value

pub returns-clause-outside : goal.returns-clause-outside
returns-clause-outside c =
    let a = c.args.area.now in
    let p = c.split_at_mut-cells.ensures in
    let q = c.requires.cells in
    let x = part_tree (parted _ _ _ _ p.value p.front_len) a.free (omega (arith, c.requires.room)) a.sheet.now a.arena c.args.i q.0.0 q.0.1 in
    let y = part_tree (parted _ _ _ _ p.value p.front_len) a.free (omega (arith, c.requires.room)) a.sheet.now a.arena c.args.j q.1.0 q.1.1 in
    joined_outside (parted _ _ _ _ p.value p.front_len) c.same_canonical.ensures.outside (omega arith) (omega (arith, ap size x, ap size y))
