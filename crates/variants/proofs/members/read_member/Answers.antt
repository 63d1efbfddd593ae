use native.Mathlib.Omega.{arith}
use Rattle.tree.proofs.Keeping.{grows_same, grows_length}
use Rattle.reading.proofs.Keeping.{reads_grows, sheet_length}
use Rattle.variants.proofs.EntryLaws.{member_placed, line_none}
use Rattle.variants.proofs.ReadingMembers.{text_unread, entries_next, values_unread, member_there}
use Rattle.variants.proofs.members.read_member.Goals as goal

pub returns-in_err-line : goal.returns-in_err-line
returns-in_err-line c = rw c.from_residual.ensures (line_none c.args.area.now.sheet.now c.args.start.at c.in_err-line.ensures, grows_same c.args.area.now)

pub parse-requires-clause-text : goal.parse-requires-clause-text
parse-requires-clause-text c =
    let q = member_placed c.args.area.now.sheet.now c.args.start.at c.in_ok-line.line c.in_ok-line.ensures in
    (q.2, omega (arith, q), c.requires.room.0, omega (arith, q, c.requires.room))

pub parse-requires-clause-room : goal.parse-requires-clause-room
parse-requires-clause-room c =
    let q = member_placed c.args.area.now.sheet.now c.args.start.at c.in_ok-line.line c.in_ok-line.ensures in
    (omega (arith, q, c.requires.room), omega (arith, q, c.requires.room))

pub returns-in_err-value : goal.returns-in_err-value
returns-in_err-value c = rw c.from_residual-in_err-value.ensures (text_unread c.args.start.at c.in_ok-line.line c.in_ok-line.ensures c.in_err-value.ensures)

pub read_entries-requires : goal.read_entries-requires
read_entries-requires c =
    let q = member_placed c.args.area.now.sheet.now c.args.start.at c.in_ok-line.line c.in_ok-line.ensures in
    let one = c.in_ok-value.ensures in
    let s = sheet_length one.lent in
    let w = grows_length (reads_grows one) in
    record {
      room = (omega (arith, q, s), (omega (arith, c.requires.room, s), omega (arith, q, c.requires.room, one.room, s, w), omega (arith, q, c.requires.room, one.room, s)));
      entries_there = entries_next c.args.start.at c.in_ok-line.line c.in_ok-line.ensures one c.requires.member_there;
    }

pub returns-in_err-entries : goal.returns-in_err-entries
returns-in_err-entries c = rw c.from_residual-in_err-entries.ensures (values_unread c.args.start.at c.in_ok-line.line c.in_ok-line.ensures c.in_ok-value.ensures c.in_err-entries.ensures)

pub returns : goal.returns
returns c = member_there c.args.start.at c.in_ok-line.line c.in_ok-line.ensures c.in_ok-value.ensures c.in_ok-entries.ensures
