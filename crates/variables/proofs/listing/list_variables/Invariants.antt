use Rattle.variables.proofs.ListingLaws.{ListingIn}
use Rattle.variables.proofs.listing.list_variables.Given as goal

abbrev pub invariant-loop-i : goal.invariant-loop-i
invariant-loop-i l = ListingIn l.initial.area l.area l.fn.places l.i l.list
