use native.Mathlib.Omega.{arith}
use Prim.Native.Nat.{◌<◌}
use Rattle.schemes.proofs.InList.{first_falls, ready_children, ready_root, picks, later_falls, ready_later, join_cells, join_room, chosen_list, chosen_none}
use Rattle.schemes.proofs.choosing.+choose.Goals as goal

pub returns-then-i-eq0 : goal.returns-then-i-eq0
returns-then-i-eq0 t c = λ name f. chosen_none c.requires c.if-i-eq0.true name

pub choose-below-requires : goal.choose-below-requires
choose-below-requires t c =
    let i = c.args.i in
    let q : 0 < i = omega (arith, c.if-i-eq0.false) in
    let f = c.child_of-first.ensures in
    (omega (arith, c.decreases, first_falls i c.child_of-first.result c.requires q f.below f.children), ready_children i c.child_of-first.result c.requires q f.below f.children)

pub root-here-requires : goal.root-here-requires
root-here-requires t c =
    let n = c.requires.named in
    let f = c.child_of-first.ensures in
    ready_root c.args.i c.child_of-first.result c.requires (omega (arith, c.if-i-eq0.false)) f.below f.children n.name n.cells c.choose-below.result c.choose-below.ensures

pub next_of-later-requires : goal.next_of-later-requires
next_of-later-requires t c =
    let i = c.args.i in
    let q : 0 < i = omega (arith, c.if-i-eq0.false) in
    let n = c.requires.named in
    let f = c.child_of-first.ensures in
    let k = picks i c.child_of-first.result c.requires q f.below f.children n.name n.cells c.choose-below.result c.choose-below.ensures c.root-here.result c.root-here.ensures in
    (q, omega (arith, c.requires.inside, k.grows.grew))

pub choose-rest-requires : goal.choose-rest-requires
choose-rest-requires t c =
    let i = c.args.i in
    let q : 0 < i = omega (arith, c.if-i-eq0.false) in
    let n = c.requires.named in
    let f = c.child_of-first.ensures in
    let k = picks i c.child_of-first.result c.requires q f.below f.children n.name n.cells c.choose-below.result c.choose-below.ensures c.root-here.result c.root-here.ensures in
    let l = c.next_of-later.ensures in
    (omega (arith, c.decreases, later_falls i c.requires q n.name n.cells c.root-here.result k l.next), ready_later i c.requires q n.name n.cells c.root-here.result k l.next l.below)

pub join-requires-clause-cells : goal.join-requires-clause-cells
join-requires-clause-cells t c =
    let i = c.args.i in
    let q : 0 < i = omega (arith, c.if-i-eq0.false) in
    let n = c.requires.named in
    let f = c.child_of-first.ensures in
    let k = picks i c.child_of-first.result c.requires q f.below f.children n.name n.cells c.choose-below.result c.choose-below.ensures c.root-here.result c.root-here.ensures in
    join_cells i c.requires q n.name n.cells c.root-here.result k c.next_of-later.result c.next_of-later.ensures.next c.choose-rest.result c.choose-rest.ensures

pub join-requires-clause-room : goal.join-requires-clause-room
join-requires-clause-room t c =
    let i = c.args.i in
    let q : 0 < i = omega (arith, c.if-i-eq0.false) in
    let n = c.requires.named in
    let f = c.child_of-first.ensures in
    let k = picks i c.child_of-first.result c.requires q f.below f.children n.name n.cells c.choose-below.result c.choose-below.ensures c.root-here.result c.root-here.ensures in
    join_room i c.requires q n.name n.cells c.root-here.result k c.next_of-later.result c.next_of-later.ensures.next c.choose-rest.result c.choose-rest.ensures

pub returns : goal.returns
returns t c =
    let i = c.args.i in
    let q : 0 < i = omega (arith, c.if-i-eq0.false) in
    let f = c.child_of-first.ensures in
    λ name h.
    let k = picks i c.child_of-first.result c.requires q f.below f.children name h c.choose-below.result c.choose-below.ensures c.root-here.result c.root-here.ensures in
    chosen_list i c.requires q name h c.root-here.result k c.next_of-later.result c.next_of-later.ensures.next c.choose-rest.result c.choose-rest.ensures c.join.result c.join.ensures
