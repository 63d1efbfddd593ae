use mathlib.Core.Path.{sym, ◌∙◌}
use Rattle.families.proofs.GatheringIn.{gathering_starts, gathering_ends, gathering_next, gathering_unread, gathering_turn}
use Rattle.families.proofs.members.read_members.Goals as goal

pub loop-cursor-init : goal.loop-cursor-init
loop-cursor-init c = gathering_starts c.args.area.now c.args.start.at

pub read_member-requires-clause-member_there : goal.read_member-requires-clause-member_there
read_member-requires-clause-member_there c = gathering_next c.loop-cursor.invariant c.next_member.ensures (sym c.is_some.ensures ∙ c.loop-cursor-test.true) c.requires.members

pub returns-in_default : goal.returns-in_default
returns-in_default c = gathering_unread c.loop-cursor.invariant c.next_member.ensures (sym c.is_some.ensures ∙ c.loop-cursor-test.true) c.in_default.ensures

pub loop-cursor-preserved : goal.loop-cursor-preserved
loop-cursor-preserved c =
    gathering_turn c.loop-cursor.invariant c.next_member.ensures (sym c.is_some.ensures ∙ c.loop-cursor-test.true) c.in-Some.ensures c.push_member-list.ensures.lists c.push_member-list.ensures.end

pub returns : goal.returns
returns c = gathering_ends c.loop-cursor.invariant c.next_member.ensures (sym c.is_some.ensures ∙ c.loop-cursor-test.false)
