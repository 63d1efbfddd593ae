use mathlib.Core.Path.{refl, sym, ap, ◌∙◌}
use mathlib.Core.Bool.{not}
use native.Mathlib.Omega.{arith}
use Rattle.std.proofs.Common.{rules}
use Rattle.std.specs.Prelude.{Some, None}
use Rattle.rules.specs.Sorts.{message as one, messages as all}
use Rattle.rules.specs.declared.Sort.TheVariants.{Node}
use Rattle.tree.proofs.Walks.{rest_falls, each_ends, each_last, each_then, each_else}
use Rattle.sorts.proofs.Testing.{same_sorts, message_variable}
use Rattle.sorts.proofs.+message_messages.Goals as goal

pub message-returns-in-Variable-Some : goal.message-returns-in-Variable-Some
message-returns-in-Variable-Some t c =
    let v = c.in-Variable-Some in
    c.ne.ensures ∙ ap not (same_sorts v.sort Node) ∙ sym (message_variable c.args.area.now c.args.i (Some v.sort) (search rules) c.requires.0 c.requires.1)

pub message-returns-in-Variable-None : goal.message-returns-in-Variable-None
message-returns-in-Variable-None t c = sym (message_variable c.args.area.now c.args.i None (search rules) c.requires.0 c.requires.1)

pub messages-returns-then-i-eq0 : goal.messages-returns-then-i-eq0
unfolding one
messages-returns-then-i-eq0 t c = each_ends one all refl (λ u us. refl) c.args.area.now c.args.i c.if-i-eq0.true

pub messages-messages-requires : goal.messages-messages-requires
messages-messages-requires t c =
    let f = c.next_of-next.ensures in
    (rest_falls c.args.area.now c.args.i f.next c.decreases (omega arith) c.requires, omega (arith, f.below, c.requires))

pub messages-returns-then-next-eq0 : goal.messages-returns-then-next-eq0
unfolding one
messages-returns-then-next-eq0 t c = each_last one all refl (λ u us. refl) c.args.area.now c.args.i (omega arith) c.requires c.next_of-next.ensures.next c.message.ensures c.if-next-eq0.true

pub messages-returns-then-message : goal.messages-returns-then-message
unfolding one
messages-returns-then-message t c = each_then one all refl (λ u us. refl) c.args.area.now c.args.i (omega arith) c.requires c.next_of-next.ensures.next c.message-2.ensures c.if-message.true c.messages.ensures

pub messages-returns-else-message : goal.messages-returns-else-message
unfolding one
messages-returns-else-message t c = each_else one all refl (λ u us. refl) c.args.area.now c.args.i (omega arith) c.requires c.next_of-next.ensures.next c.message-2.ensures c.if-message.false
