use native.Mathlib.Omega.{arith}
use Rattle.variables.proofs.Listed.{variables_grown}
use Rattle.values.proofs.ValueLaws.{walk_starts, walk_ends, walk_placed, walk_inside, walk_room, walk_unread, walk_turn}
use Rattle.values.proofs.values.read_values.Goals as goal

pub loop-entry-init : goal.loop-entry-init
loop-entry-init c = walk_starts c.args.area.now c.args.names c.args.start c.requires.start.0

pub read_value-requires-clause-names : goal.read_value-requires-clause-names
read_value-requires-clause-names c = variables_grown c.loop-entry.invariant.grows c.requires.names

pub read_value-requires-clause-inside : goal.read_value-requires-clause-inside
read_value-requires-clause-inside c = walk_inside c.requires.names c.loop-entry.invariant c.in-Some.entry c.in-Some.ensures c.requires.start.1

pub read_value-requires-clause-room : goal.read_value-requires-clause-room
read_value-requires-clause-room c = walk_room c.requires.names c.loop-entry.invariant c.in-Some.entry c.in-Some.ensures c.requires.room

pub returns-in_err-bindings : goal.returns-in_err-bindings
returns-in_err-bindings c = rw c.from_residual.ensures (walk_unread c.requires.names c.loop-entry.invariant c.in-Some.entry c.in-Some.ensures c.in_err-bindings.ensures)

pub loop-entry-smaller : goal.loop-entry-smaller
loop-entry-smaller c =
    let x = walk_placed c.requires.names c.loop-entry.invariant c.in-Some.entry c.in-Some.ensures in
    omega (arith, x.next, x.within)

pub loop-entry-preserved : goal.loop-entry-preserved
loop-entry-preserved c = walk_turn c.requires.names c.loop-entry.invariant c.in-Some.entry c.in-Some.ensures c.in_ok-bindings.ensures

pub returns : goal.returns
returns c = walk_ends c.requires.names c.loop-entry.invariant c.in_default.ensures
