use mathlib.Core.Path.{refl, sym, ◌∙◌}
use native.Mathlib.Omega.{arith}
use Rattle.tree.proofs.Keeping.{grows_keeps}
use Rattle.tree.proofs.Truncating.{keeps_truncated}
use Rattle.variables.proofs.Listed.{solution_grown}
use Rattle.families.proofs.SearchingIn.{searching_ends, here_member, here_matched, searching_found, searching_turn}
use Rattle.families.proofs.generalizing.generalized.Goals as goal

pub generalizes-requires-clause-member : goal.generalizes-requires-clause-member
generalizes-requires-clause-member c =
    let r = c.requires in
    here_member r.solution r.cells.1 c.loop-k.invariant.0 (omega (arith, c.loop-k-test.true))

pub generalizes-requires-clause-solution : goal.generalizes-requires-clause-solution
generalizes-requires-clause-solution c =
    solution_grown (grows_keeps c.loop-k.invariant.0.keeps) c.requires.solution

pub generalizes-requires-clause-matched : goal.generalizes-requires-clause-matched
generalizes-requires-clause-matched c =
    let r = c.requires in
    here_matched r.solution r.cells.1 c.loop-k.invariant.0 (omega (arith, c.loop-k-test.true))

pub returns-then-generalizes-clause-value : goal.returns-then-generalizes-clause-value
returns-then-generalizes-clause-value c =
    let r = c.requires in
    searching_found r.solution r.cells.1 c.loop-k.invariant.0 (omega (arith, c.loop-k-test.true)) (sym c.if-generalizes.true ∙ c.generalizes.ensures.value)

pub loop-k-preserved : goal.loop-k-preserved
loop-k-preserved c =
    let r = c.requires in
    let h = c.loop-k.invariant in
    (searching_turn r.solution r.cells.1 h.0 (omega (arith, c.loop-k-test.true)) _ (sym c.if-generalizes.false ∙ c.generalizes.ensures.value) (keeps_truncated (sym h.0.keeps.end) c.generalizes.ensures.grows c.truncate.ensures.lent c.truncate.ensures.end c.truncate.ensures.words) c.next_of-k.ensures.next, refl)

pub returns-clause-value : goal.returns-clause-value
returns-clause-value c =
    let r = c.requires in
    searching_ends r.solution r.cells.1 c.loop-k.invariant.0 (omega (arith, c.loop-k-test.false))
