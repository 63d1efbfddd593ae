use Rattle.std.specs.Prelude.{◌≡◌, ◌-◌, ◌*◌, ◌++◌, drop}
use Rattle.rules.specs.Page.{page}
use Rattle.sheet.specs.Lines.{part_of}
use Rattle.layout.specs.Places.{laid_out, Unread}
use Rattle.layout.proofs.lay_out.Given as goal

abbrev pub invariant-loop-place : goal.invariant-loop-place
invariant-loop-place l =
    record { unread : Unread l.output l.end l.place; laid : laid_out l.output l.end l.place ≡ page (part_of l.start (3650 * l.pages) l.fn.output) ++ drop (3650 * l.pages) l.fn.output }

abbrev pub decreases-loop-place : goal.decreases-loop-place
decreases-loop-place l = l.end - l.place.from
