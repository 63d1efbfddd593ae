use Rattle.matching.proofs.Matches.{match_stack, match_room}
use Rattle.cover.proofs.DecidingIn.{unread_covers, matched, used_most, passes}
use Rattle.cover.proofs.covering.pass_member.Goals as goal

pub returns-in_err-pairs : goal.returns-in_err-pairs
returns-in_err-pairs c = rw c.from_residual.ensures (unread_covers c.args.solution c.args.start.at c.in_err-pairs.ensures)

pub matcher-answer-requires-clause-stack : goal.matcher-answer-requires-clause-stack
matcher-answer-requires-clause-stack c =
    let h = c.in_ok-pairs.ensures in
    let k = c.requires.matchable in
    match_stack h.grows h.inside h.trees (used_most h k) (matched h k)

pub matcher-answer-requires-clause-room : goal.matcher-answer-requires-clause-room
matcher-answer-requires-clause-room c =
    let h = c.in_ok-pairs.ensures in
    let k = c.requires.matchable in
    match_room h.grows h.inside h.trees (used_most h k) (matched h k)

pub returns : goal.returns
returns c = rw c.then_some.ensures (passes c.in_ok-pairs.ensures c.requires.matchable c.requires.start.1 c.matcher-answer.ensures _ c.eq-failed.ensures)
