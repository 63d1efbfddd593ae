use native.Mathlib.Omega.{arith}
use Rattle.tree.proofs.Keeping.{grows_length}
use Rattle.reading.proofs.Keeping.{sheet_length}
use Rattle.variants.proofs.Claiming.{one_there}
use Rattle.variants.proofs.ClaimingIn.{unread_claims, sound_claims}
use Rattle.variants.proofs.soundness.sound.Goals as goal

pub read_member-requires-clause-room : goal.read_member-requires-clause-room
read_member-requires-clause-room c = let q = c.requires.room in (q.0, omega (arith, q), omega (arith, q))

pub read_member-requires-clause-member_there : goal.read_member-requires-clause-member_there
read_member-requires-clause-member_there c = one_there c.requires.one_member

pub returns-in_err-member : goal.returns-in_err-member
returns-in_err-member c = rw c.from_residual.ensures (unread_claims c.args.term c.args.start.at c.in_err-member.ensures)

pub reduces_to-requires-clause-cells : goal.reduces_to-requires-clause-cells
reduces_to-requires-clause-cells c =
    let x = c.in_ok-member.ensures in
    ((c.requires.term.0, omega (arith, c.requires.term, x.grows.grew)), x.placed, x.inside)

pub reduces_to-requires-clause-room : goal.reduces_to-requires-clause-room
reduces_to-requires-clause-room c =
    let x = c.in_ok-member.ensures in
    let q = c.requires.room in
    let s = sheet_length x.grows.lent in
    (x.small, (omega (arith, q, x.used, x.within, s, grows_length x.grows), omega (arith, q, x.used, x.within, s)))

pub returns : goal.returns
returns c = sound_claims c.args.term c.reduces_to.result c.requires.term.0 c.requires.term.1 c.in_ok-member.ensures c.reduces_to.ensures
