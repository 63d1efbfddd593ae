use Rattle.variables.proofs.Pairs.{PairingIn}
use Rattle.variables.proofs.pairing.pair_values.Given as goal

abbrev pub invariant-loop-k : goal.invariant-loop-k
invariant-loop-k l = PairingIn l.initial.area l.area l.fn.values l.fn.solution l.fn.rest l.k l.list

abbrev pub decreases-loop-k : goal.decreases-loop-k
decreases-loop-k l = l.k
