use Rattle.std.proofs.Common.{rules}
use Rattle.complete.proofs.RunsIn.{stack_inside, enough_bound, run_stack, fuel_most, run_counts, run_room, solved_asks, solved_room, solved_matched, judged_unsupported, judged_failed, judged_settled, judged_solved}
use Rattle.complete.proofs.judging.judge_scheme.Goals as goal

pub nodes_in-nodes-requires : goal.nodes_in-nodes-requires
nodes_in-nodes-requires c = stack_inside c.requires.asks c.requires.can_judge c.system_at-system.ensures

pub enough-fuel-requires : goal.enough-fuel-requires
enough-fuel-requires c = enough_bound c.requires.asks c.requires.can_judge c.system_at-system.ensures _ 0 c.nodes_in-nodes.ensures

pub unify_sparing-answer-requires-clause-stack : goal.unify_sparing-answer-requires-clause-stack
unify_sparing-answer-requires-clause-stack c = run_stack c.requires.asks c.requires.can_judge c.system_at-system.ensures

pub unify_sparing-answer-requires-clause-fuel : goal.unify_sparing-answer-requires-clause-fuel
unify_sparing-answer-requires-clause-fuel c = fuel_most c.requires.asks c.requires.can_judge c.system_at-system.ensures _ _ c.nodes_in-nodes.ensures c.enough-fuel.ensures

pub unify_sparing-answer-requires-clause-counts : goal.unify_sparing-answer-requires-clause-counts
unify_sparing-answer-requires-clause-counts c = run_counts c.requires.asks c.requires.can_judge c.system_at-system.ensures _ _ c.nodes_in-nodes.ensures c.enough-fuel.ensures

pub unify_sparing-answer-requires-clause-room : goal.unify_sparing-answer-requires-clause-room
unify_sparing-answer-requires-clause-room c = run_room c.requires.asks c.requires.can_judge c.system_at-system.ensures _ _ c.nodes_in-nodes.ensures c.enough-fuel.ensures

pub judge_solved-requires-clause-asks : goal.judge_solved-requires-clause-asks
judge_solved-requires-clause-asks c =
    solved_asks c.requires.asks c.requires.can_judge c.system_at-system.ensures _ _ c.nodes_in-nodes.ensures c.enough-fuel.ensures c.unify_sparing-answer.ensures.answers c.args.before _ c.in-Ok.is

pub judge_solved-requires-clause-room : goal.judge_solved-requires-clause-room
judge_solved-requires-clause-room c =
    let y = c.unify_sparing-answer.ensures in
    solved_room c.requires.asks c.requires.can_judge c.system_at-system.ensures _ _ c.nodes_in-nodes.ensures c.enough-fuel.ensures y.answers c.args.before _ c.in-Ok.is y.ends

pub judge_solved-requires-clause-matched : goal.judge_solved-requires-clause-matched
judge_solved-requires-clause-matched c =
    let y = c.unify_sparing-answer.ensures in
    solved_matched c.requires.asks c.requires.can_judge c.system_at-system.ensures _ _ c.nodes_in-nodes.ensures c.enough-fuel.ensures y.answers c.args.before _ c.in-Ok.is y.ends

pub returns-in-Err-Unsupported : goal.returns-in-Err-Unsupported
returns-in-Err-Unsupported c =
    judged_unsupported c.requires.asks c.requires.can_judge c.system_at-system.ensures _ _ c.nodes_in-nodes.ensures c.enough-fuel.ensures c.unify_sparing-answer.ensures.answers c.args.before (search rules)

pub returns-in-Err-Failed : goal.returns-in-Err-Failed
returns-in-Err-Failed c =
    judged_failed c.requires.asks c.requires.can_judge c.system_at-system.ensures _ _ c.nodes_in-nodes.ensures c.enough-fuel.ensures c.unify_sparing-answer.ensures.answers c.args.before (search rules)

pub returns-in-Pending : goal.returns-in-Pending
returns-in-Pending c =
    judged_solved c.requires.asks c.requires.can_judge c.system_at-system.ensures _ _ c.nodes_in-nodes.ensures c.enough-fuel.ensures c.unify_sparing-answer.ensures.answers c.args.before _ c.in-Ok.is c.in-Pending.is c.judge_solved.ensures.value c.judge_solved.ensures.grows

pub returns-in-Missing : goal.returns-in-Missing
returns-in-Missing c =
    judged_settled c.requires.asks c.requires.can_judge c.system_at-system.ensures _ _ c.nodes_in-nodes.ensures c.enough-fuel.ensures c.unify_sparing-answer.ensures.answers c.args.before _ c.in-Ok.is c.in-Missing.is
