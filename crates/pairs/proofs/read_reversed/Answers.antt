use native.Mathlib.Omega.{arith}
use Rattle.forms.proofs.Located.{pair_located}
use Rattle.reading.proofs.Keeping.{sheet_length}
use Rattle.reading.proofs.TextRooms.{texts_room}
use Rattle.pairs.proofs.ReadingPairs.{reading_starts, reading_ends, reading_inside, reading_room, reading_unread, reading_turn}
use Rattle.pairs.proofs.read_reversed.Goals as goal

pub loop-pair-init : goal.loop-pair-init
loop-pair-init c = reading_starts c.args.area.now c.args.start.at c.requires.room.0

pub read_pair-requires-clause-inside : goal.read_pair-requires-clause-inside
read_pair-requires-clause-inside c = reading_inside c.loop-pair.invariant c.in-Some.pair c.in-Some.ensures

pub read_pair-requires-clause-room : goal.read_pair-requires-clause-room
read_pair-requires-clause-room c = texts_room c.args.start.at c.loop-pair.invariant.grows c.requires.room.1 (reading_room c.loop-pair.invariant c.in-Some.pair c.in-Some.ensures)

pub returns-in_err-stack : goal.returns-in_err-stack
returns-in_err-stack c = rw c.from_residual.ensures (reading_unread c.loop-pair.invariant c.in-Some.pair c.in-Some.ensures c.in_err-stack.ensures)

pub loop-pair-smaller : goal.loop-pair-smaller
loop-pair-smaller c =
    let x = pair_located c.loop-pair.area.sheet.now c.loop-pair.next.at c.in-Some.pair c.in-Some.ensures in
    omega (arith, x.next, x.within, sheet_length c.in_ok-stack.ensures.grows.lent)

pub loop-pair-preserved : goal.loop-pair-preserved
loop-pair-preserved c = reading_turn c.loop-pair.invariant c.in-Some.pair c.in-Some.ensures c.in_ok-stack.ensures

pub returns : goal.returns
returns c = reading_ends c.loop-pair.invariant c.in_default.ensures
