use mathlib.Core.Path.{sym, ◌∙◌}
use Rattle.complete.proofs.CompletingIn.{term_spelled, term_fits, claims_unindexed, over_claims, count_now, fresh_room, members_room, unread_claims, question_asks, question_can, question_claims}
use Rattle.complete.proofs.completing.complete.Goals as goal

pub name_variables-requires-clause-term : goal.name_variables-requires-clause-term
name_variables-requires-clause-term c = let k = c.requires.term in (k.0, term_spelled c.args.area.now k.1)

pub name_variables-requires-clause-few : goal.name_variables-requires-clause-few
name_variables-requires-clause-few c = term_fits c.args.area.now c.requires.term.1

pub returns-in_err-variables : goal.returns-in_err-variables
returns-in_err-variables c = rw c.from_residual.ensures (claims_unindexed c.args.area.now c.requires.term.1 c.in_err-variables.ensures)

pub returns-in_err-count : goal.returns-in_err-count
returns-in_err-count c =
    let k = c.requires.term in
    rw c.from_residual-in_err-count.ensures (over_claims c.args.area.now k.1 k.0.0 k.0.1 c.in_ok-variables.ensures (sym c.in_err-count.was ∙ c.count_schemes.ensures))

pub fresh_cells-fresh-requires-clause-room : goal.fresh_cells-fresh-requires-clause-room
fresh_cells-fresh-requires-clause-room c = let k = c.requires.term in fresh_room c.args.area.now k.1 k.0.0 k.0.1 c.in_ok-variables.ensures

pub read_members-requires-clause-room : goal.read_members-requires-clause-room
read_members-requires-clause-room c = let k = c.requires.term in members_room c.args.area.now k.1 k.0.0 k.0.1 c.in_ok-variables.ensures c.fresh_cells-fresh.ensures

pub returns-in_err-list : goal.returns-in_err-list
returns-in_err-list c =
    let k = c.requires.term in
    rw c.from_residual-in_err-list.ensures (unread_claims c.args.area.now k.1 k.0.0 k.0.1 c.in_ok-variables.ensures c.fresh_cells-fresh.ensures c.in_err-list.ensures)

pub judge-requires-clause-asks : goal.judge-requires-clause-asks
judge-requires-clause-asks c =
    let k = c.requires.term in
    let n = count_now c.args.area.now k.1 k.0.0 k.0.1 c.in_ok-variables.ensures c.in_ok-count.count (sym c.in_ok-count.was ∙ c.count_schemes.ensures) in
    question_asks c.args.area.now k.1 k.0.0 k.0.1 c.in_ok-variables.ensures c.fresh_cells-fresh.ensures c.in_ok-list.ensures c.in_ok-count.count n

pub judge-requires-clause-can_judge : goal.judge-requires-clause-can_judge
judge-requires-clause-can_judge c =
    let k = c.requires.term in
    let n = count_now c.args.area.now k.1 k.0.0 k.0.1 c.in_ok-variables.ensures c.in_ok-count.count (sym c.in_ok-count.was ∙ c.count_schemes.ensures) in
    question_can c.args.area.now k.1 k.0.0 k.0.1 c.in_ok-variables.ensures c.fresh_cells-fresh.ensures c.in_ok-list.ensures c.in_ok-count.count n

pub returns : goal.returns
returns c =
    let k = c.requires.term in
    let n = count_now c.args.area.now k.1 k.0.0 k.0.1 c.in_ok-variables.ensures c.in_ok-count.count (sym c.in_ok-count.was ∙ c.count_schemes.ensures) in
    question_claims c.args.area.now k.1 k.0.0 k.0.1 c.in_ok-variables.ensures c.fresh_cells-fresh.ensures c.in_ok-list.ensures c.in_ok-count.count n c.judge.result c.judge.ensures
