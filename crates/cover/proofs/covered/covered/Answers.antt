use native.Mathlib.Omega.{arith}
use Rattle.cover.proofs.Rooms.{asked_nodes, asked_spelled, asked_few}
use Rattle.cover.proofs.SolvingIn.{nodes_inside, run_stack, run_counts, run_room, unsolved, solution_there, all_room, all_matchable, claimed}
use Rattle.cover.proofs.covered.covered.Goals as goal

pub names_of-names-requires-clause-stack : goal.names_of-names-requires-clause-stack
names_of-names-requires-clause-stack c = let k = c.requires.stack in (k.0, k.1.whole, asked_spelled k.1)

pub names_of-names-requires-clause-few : goal.names_of-names-requires-clause-few
names_of-names-requires-clause-few c = let k = c.requires.stack.1 in (omega (arith, asked_nodes k, asked_few k), k.short)

pub nodes_in-nodes-requires : goal.nodes_in-nodes-requires
nodes_in-nodes-requires c = nodes_inside c.requires.stack.0 c.requires.stack.1 c.names_of-names.ensures

pub unify_sparing-answer-requires-clause-stack : goal.unify_sparing-answer-requires-clause-stack
unify_sparing-answer-requires-clause-stack c = run_stack c.requires.stack.0 c.requires.stack.1 c.names_of-names.ensures

pub unify_sparing-answer-requires-clause-counts : goal.unify_sparing-answer-requires-clause-counts
unify_sparing-answer-requires-clause-counts c = run_counts c.requires.stack.0 c.requires.stack.1 c.names_of-names.ensures _ _ c.nodes_in-nodes.ensures c.count_of-colons.ensures

pub unify_sparing-answer-requires-clause-room : goal.unify_sparing-answer-requires-clause-room
unify_sparing-answer-requires-clause-room c = run_room c.requires.stack.0 c.requires.stack.1 c.names_of-names.ensures _ _ c.nodes_in-nodes.ensures c.count_of-colons.ensures

pub any_covers-requires-clause-solution : goal.any_covers-requires-clause-solution
any_covers-requires-clause-solution c =
    let k = c.requires.stack in
    let y = c.unify_sparing-answer.ensures in
    solution_there k.0 k.1 c.names_of-names.ensures _ _ c.nodes_in-nodes.ensures c.count_of-colons.ensures y.answers _ c.in-Ok.is y.ends

pub any_covers-requires-clause-room : goal.any_covers-requires-clause-room
any_covers-requires-clause-room c =
    let k = c.requires.stack in
    let y = c.unify_sparing-answer.ensures in
    all_room k.0 k.1 c.names_of-names.ensures _ _ c.nodes_in-nodes.ensures c.count_of-colons.ensures y.answers _ c.in-Ok.is y.ends

pub any_covers-requires-clause-matchable : goal.any_covers-requires-clause-matchable
any_covers-requires-clause-matchable c =
    let k = c.requires.stack in
    let y = c.unify_sparing-answer.ensures in
    all_matchable k.0 k.1 c.names_of-names.ensures _ _ c.nodes_in-nodes.ensures c.count_of-colons.ensures y.answers _ c.in-Ok.is y.ends

pub returns : goal.returns
returns c =
    let k = c.requires.stack in
    let y = c.unify_sparing-answer.ensures in
    claimed k.0 k.1 c.names_of-names.ensures _ _ c.nodes_in-nodes.ensures c.count_of-colons.ensures y.answers _ c.in-Ok.is y.ends _ c.any_covers.ensures

pub returns-in_default : goal.returns-in_default
returns-in_default c =
    let k = c.requires.stack in
    unsolved k.0 k.1 c.names_of-names.ensures _ _ c.nodes_in-nodes.ensures c.count_of-colons.ensures c.unify_sparing-answer.ensures.answers c.in_default.is
