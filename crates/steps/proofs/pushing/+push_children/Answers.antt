use native.Mathlib.Omega.{arith}
use Rattle.tree.specs.Areas.{trees_in}
use Rattle.steps.proofs.Pairing.{pushes_none, pushed_more, lists_more}
use Rattle.steps.proofs.pushing.+push_children.Goals as goal

pub returns-then-left-eq0-clause-lists : goal.returns-then-left-eq0-clause-lists
returns-then-left-eq0-clause-lists t c =
    let a = c.args in
    (pushes_none a.area.now a.left a.right a.stack c.requires.links.0 c.requires.links.2 c.then-left-eq0.either).0

pub returns-then-left-eq0-clause-end : goal.returns-then-left-eq0-clause-end
returns-then-left-eq0-clause-end t c =
    let a = c.args in
    (pushes_none a.area.now a.left a.right a.stack c.requires.links.0 c.requires.links.2 c.then-left-eq0.either).1

pub push_children-below-requires : goal.push_children-below-requires
push_children-below-requires t c =
    let a = c.args in
    let l = c.requires.links in
    let x = c.next_of-next_left.ensures in
    let y = c.next_of-next_right.ensures in
    let z = pushed_more a.area.now a.left a.right c.next_of-next_left.result c.next_of-next_right.result (omega arith) l.0 (omega arith) l.1 x.next y.next in
    let d = c.decreases in
    (omega (arith, x.below, d), ((omega (arith, x.below, l.0), omega (arith, y.below, l.1), l.2), (omega (arith, z, c.requires.room.0), omega (arith, z, c.requires.room.1))))

pub push_pair-requires-clause-room : goal.push_pair-requires-clause-room
push_pair-requires-clause-room t c =
    let a = c.args in
    let l = c.requires.links in
    let z = pushed_more a.area.now a.left a.right c.next_of-next_left.result c.next_of-next_right.result (omega arith) l.0 (omega arith) l.1 c.next_of-next_left.ensures.next c.next_of-next_right.ensures.next in
    let b = c.push_children-below.ensures in
    (omega (arith, z, b.end, c.requires.room.0, b.lists.adds.grown.len), omega (arith, z, b.end, c.requires.room.1))

pub returns-clause-lists : goal.returns-clause-lists
returns-clause-lists t c =
    let a = c.args in
    let l = c.requires.links in
    lists_more a.area.now a.left a.right c.next_of-next_left.result c.next_of-next_right.result (omega arith) l.0 (omega arith) l.1 c.next_of-next_left.ensures.next c.next_of-next_right.ensures.next
    (trees_in a.area.now a.stack) c.push_children-below.ensures.lists c.push_pair.ensures.lists

pub returns-clause-end : goal.returns-clause-end
returns-clause-end t c =
    let a = c.args in
    let l = c.requires.links in
    let z = pushed_more a.area.now a.left a.right c.next_of-next_left.result c.next_of-next_right.result (omega arith) l.0 (omega arith) l.1 c.next_of-next_left.ensures.next c.next_of-next_right.ensures.next in
    omega (arith, z, c.push_children-below.ensures.end, c.push_pair.ensures.end)
