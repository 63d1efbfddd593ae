use Rattle.schemes.proofs.choosing.+append.Given as goal

abbrev pub decreases-append : goal.decreases-append
decreases-append l = l.x
