use native.Mathlib.Omega.{arith}
use Rattle.schemes.proofs.OneSystem.{ready_term, value_cells, term_inside, more_room, stack_lists, stack_room, systems}
use Rattle.schemes.proofs.systems.system_at.Goals as goal

pub choose-chosen-requires : goal.choose-chosen-requires
choose-chosen-requires c = let a = c.args in let r = c.requires in ready_term a.schemes.term a.schemes.count a.index r.fresh r.term r.index r.room c.share-alone.ensures

pub push_pair-last-requires-clause-cells : goal.push_pair-last-requires-clause-cells
push_pair-last-requires-clause-cells c =
    let a = c.args in
    let r = c.requires in
    value_cells a.schemes.term a.schemes.count a.index r.fresh r.term r.index r.room c.share-alone.ensures r.fresh.name r.fresh.cells c.choose-chosen.result c.choose-chosen.ensures

pub push_pair-last-requires-clause-room : goal.push_pair-last-requires-clause-room
push_pair-last-requires-clause-room c =
    let a = c.args in
    let r = c.requires in
    let z = more_room a.schemes.term a.schemes.count a.index r.fresh r.term r.index r.room c.share-alone.ensures r.fresh.name r.fresh.cells c.choose-chosen.result c.choose-chosen.ensures in
    (omega (arith, z.0), omega (arith, z.1))

pub push_pair-both-requires-clause-cells : goal.push_pair-both-requires-clause-cells
push_pair-both-requires-clause-cells c =
    let a = c.args in
    let r = c.requires in
    let d = c.push_pair-last.ensures in
    let q = term_inside a.schemes.term a.schemes.count a.index r.fresh r.term r.index r.room c.share-alone.ensures r.fresh.name r.fresh.cells c.choose-chosen.result c.choose-chosen.ensures in
    ((r.term.0.0, omega (arith, q, d.end)), (r.term.0.0, omega (arith, q, d.end)), d.lists.inside)

pub push_pair-both-requires-clause-room : goal.push_pair-both-requires-clause-room
push_pair-both-requires-clause-room c =
    let a = c.args in
    let r = c.requires in
    let d = c.push_pair-last.ensures in
    let z = more_room a.schemes.term a.schemes.count a.index r.fresh r.term r.index r.room c.share-alone.ensures r.fresh.name r.fresh.cells c.choose-chosen.result c.choose-chosen.ensures in
    (omega (arith, z.0, d.end, d.lists.adds.grown.len), omega (arith, z.1, d.end))

pub append-stack-requires-clause-lists : goal.append-stack-requires-clause-lists
append-stack-requires-clause-lists c =
    let a = c.args in
    let r = c.requires in
    let d = c.push_pair-last.ensures in
    let g = c.push_pair-both.ensures in
    stack_lists a.schemes.term a.schemes.count a.index r.fresh r.term r.index r.room c.share-alone.ensures r.fresh.name r.fresh.cells c.choose-chosen.result c.choose-chosen.ensures d.lists d.end g.lists g.end

pub append-stack-requires-clause-room : goal.append-stack-requires-clause-room
append-stack-requires-clause-room c =
    let a = c.args in
    let r = c.requires in
    let d = c.push_pair-last.ensures in
    let g = c.push_pair-both.ensures in
    stack_room a.schemes.term a.schemes.count a.index r.fresh r.term r.index r.room c.share-alone.ensures r.fresh.name r.fresh.cells c.choose-chosen.result c.choose-chosen.ensures d.lists d.end g.lists g.end

pub returns : goal.returns
returns c =
    let a = c.args in
    let r = c.requires in
    let d = c.push_pair-last.ensures in
    let g = c.push_pair-both.ensures in
    λ name f. systems a.schemes.term a.schemes.count a.index r.fresh r.term r.index r.room c.share-alone.ensures name f c.choose-chosen.result c.choose-chosen.ensures d.lists d.end g.lists g.end c.append-stack.ensures
