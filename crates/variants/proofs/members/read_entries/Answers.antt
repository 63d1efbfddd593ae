use native.Mathlib.Omega.{arith}
use Rattle.reading.proofs.Keeping.{sheet_length}
use Rattle.reading.proofs.TextRooms.{texts_room}
use Rattle.forms.proofs.Located.{entry_located}
use Rattle.variants.proofs.ReadingMembers.{entering_starts, entering_ends, entering_inside, entering_room, entering_unread, entering_turn}
use Rattle.variants.proofs.members.read_entries.Goals as goal

pub loop-entry-init : goal.loop-entry-init
loop-entry-init c = entering_starts c.args.area.now c.args.start.at c.requires.room.0

pub read_entry-requires-clause-inside : goal.read_entry-requires-clause-inside
read_entry-requires-clause-inside c = entering_inside c.loop-entry.invariant c.in-Some.entry c.in-Some.ensures

pub read_entry-requires-clause-room : goal.read_entry-requires-clause-room
read_entry-requires-clause-room c = texts_room c.args.start.at c.loop-entry.invariant.grows c.requires.room.1 (entering_room c.loop-entry.invariant c.in-Some.entry c.in-Some.ensures)

pub returns-in_err-bindings : goal.returns-in_err-bindings
returns-in_err-bindings c = rw c.from_residual.ensures (entering_unread c.loop-entry.invariant c.in-Some.entry c.in-Some.ensures c.in_err-bindings.ensures)

pub loop-entry-smaller : goal.loop-entry-smaller
loop-entry-smaller c =
    let x = entry_located c.loop-entry.area.sheet.now c.loop-entry.next.at c.in-Some.entry c.in-Some.ensures in
    omega (arith, x.next, x.within, sheet_length c.in_ok-bindings.ensures.grows.lent)

pub loop-entry-preserved : goal.loop-entry-preserved
loop-entry-preserved c = entering_turn c.loop-entry.invariant c.in-Some.entry c.in-Some.ensures c.in_ok-bindings.ensures

pub returns : goal.returns
returns c = entering_ends c.loop-entry.invariant c.requires.entries_there c.in_default.ensures
