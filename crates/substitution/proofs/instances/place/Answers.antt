use native.Mathlib.Omega.{arith}
use Rattle.substitution.proofs.Listing.{counted, places_kept}
use Rattle.substitution.proofs.instances.place.Goals as goal

pub keep-index-requires-clause-room : goal.keep-index-requires-clause-room
keep-index-requires-clause-room c =
    let h = counted c.args.area.now c.args.i c.requires.cells.0.0 c.requires.cells.0.1 in
    let e = c.in_ok-left.ensures in
    (omega (arith, h.0, h.1, c.requires.room.0), omega (arith, c.requires.room.1))

pub returns : goal.returns
returns c =
    let h = counted c.args.area.now c.args.i c.requires.cells.0.0 c.requires.cells.0.1 in
    let e = c.in_ok-left.ensures in
    places_kept c.keep-index.ensures.puts c.keep-index.ensures.end (omega (arith, h.0))
