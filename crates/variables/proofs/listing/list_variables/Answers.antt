use native.Mathlib.Omega.{arith}
use mathlib.Core.Path.{ap}
use lib.ListN.{length}
use Rattle.variables.proofs.ListingLaws.{lists_starts, lists_ends, lists_variable, lists_turn}
use Rattle.variables.proofs.listing.list_variables.Goals as goal

pub loop-i-init : goal.loop-i-init
loop-i-init c = lists_starts c.args.area.now c.args.places c.requires.places

pub push_variable-list-requires-clause-variable : goal.push_variable-list-requires-clause-variable
push_variable-list-requires-clause-variable c =
    let h = c.loop-i.invariant in
    (lists_variable h c.loop-i-test.true c.requires.places.inside c.requires.room.0, omega (arith, c.requires.short, ap (λ s. length s.now) h.lists.adds.lent.sheet))

pub loop-i-preserved : goal.loop-i-preserved
loop-i-preserved c = lists_turn c.loop-i.invariant c.loop-i-test.true c.requires.places.inside c.requires.room.0 c.push_variable-list.ensures

pub returns : goal.returns
returns c = lists_ends c.loop-i.invariant c.loop-i-test.false
