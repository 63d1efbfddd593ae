use mathlib.Core.Path.{sym, ◌∙◌}
use native.Mathlib.Omega.{arith}
use Rattle.tree.proofs.Keeping.{adds_grows}
use Rattle.variables.proofs.Listed.{solution_grown}
use Rattle.matching.proofs.Matches.{match_stack, match_room, match_says}
use Rattle.families.proofs.Generals.{own_some, own_inside}
use Rattle.families.proofs.GeneralPairs.{pairs_room, paired_up}
use Rattle.families.proofs.generalizing.generalizes.Goals as goal

pub next_of-entries-requires : goal.next_of-entries-requires
next_of-entries-requires c =
    let a = c.args.area.now in
    let m = c.requires.cells.0 in
    let e = c.first_of-own.ensures.first in
    (own_some c.args.member a.arena m.0 m.1 c.requires.member _ e, own_inside c.args.member a.arena m.0 m.1 c.requires.member _ e)

pub pair_values-pairs-requires-clause-solution : goal.pair_values-pairs-requires-clause-solution
pair_values-pairs-requires-clause-solution c = solution_grown (adds_grows c.push_pair-last.ensures.lists.adds) c.requires.solution

pub pair_values-pairs-requires-clause-room : goal.pair_values-pairs-requires-clause-room
pair_values-pairs-requires-clause-room c = pairs_room _ _ c.push_pair-last.ensures.lists c.requires.solution c.args.member c.requires.matched c.push_pair-last.ensures.end

pub matcher-answer-requires-clause-stack : goal.matcher-answer-requires-clause-stack
matcher-answer-requires-clause-stack c =
    let h = paired_up c.args.member _ _ c.args.solution c.args.value c.requires.member c.requires.cells.0 c.first_of-own.ensures.first c.next_of-entries.ensures.next c.requires.solution c.push_pair-last.ensures.lists c.push_pair-last.ensures.end c.pair_values-pairs.ensures in
    match_stack h.grows h.inside h.trees (omega (arith, h.used)) c.requires.matched

pub matcher-answer-requires-clause-room : goal.matcher-answer-requires-clause-room
matcher-answer-requires-clause-room c =
    let h = paired_up c.args.member _ _ c.args.solution c.args.value c.requires.member c.requires.cells.0 c.first_of-own.ensures.first c.next_of-entries.ensures.next c.requires.solution c.push_pair-last.ensures.lists c.push_pair-last.ensures.end c.pair_values-pairs.ensures in
    match_room h.grows h.inside h.trees (omega (arith, h.used)) c.requires.matched

pub returns-clause-value : goal.returns-clause-value
returns-clause-value c =
    let h = paired_up c.args.member _ _ c.args.solution c.args.value c.requires.member c.requires.cells.0 c.first_of-own.ensures.first c.next_of-entries.ensures.next c.requires.solution c.push_pair-last.ensures.lists c.push_pair-last.ensures.end c.pair_values-pairs.ensures in
    c.ne.ensures ∙ sym (match_says h.grows h.inside h.trees (omega (arith, h.used)) c.requires.matched c.requires.short c.matcher-answer.ensures)
