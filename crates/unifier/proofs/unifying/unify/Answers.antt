use native.Mathlib.Omega.{arith}
use Rattle.elimination.specs.Areas.{pairs_in}
use Rattle.unifier.proofs.Taking.{composed_in, answered_other}
use Rattle.unifier.proofs.unifying.unify.Goals as goal

pub returns-in_default : goal.returns-in_default
returns-in_default c =
    answered_other c.args.fuel (pairs_in c.args.area.now c.args.stack) _ _ c.run-ran.ensures c.in_default.not-Ok

pub compose-requires-clause-chain : goal.compose-requires-clause-chain
compose-requires-clause-chain c = let r = rw c.in-Ok.is at c.run-ran.ensures.made in (r.inside, r.chain)

pub compose-requires-clause-room : goal.compose-requires-clause-room
compose-requires-clause-room c = let r = rw c.in-Ok.is at c.run-ran.ensures.made in (omega (arith, r.room), omega (arith, r.fits))

pub returns : goal.returns
returns c =
    let r = rw c.in-Ok.is at c.run-ran.ensures in
    rw c.ok_or.ensures.value (composed_in c.args.fuel (pairs_in c.args.area.now c.args.stack) r c.compose.result c.compose.ensures)
