use native.Mathlib.Omega.{arith}
use Rattle.sums.proofs.Labelling.{first_text}
use Rattle.sums.proofs.Removing.{struck_texts, striking_starts, striking_ends, striking_cell, striking_next}
use Rattle.sums.proofs.striking.strike_each.Goals as goal

pub loop-p-init : goal.loop-p-init
loop-p-init c = striking_starts c.args.area.now c.args.lefts.now c.args.rights.now c.args.cancelling

pub strike_one-requires-clause-cell : goal.strike_one-requires-clause-cell
strike_one-requires-clause-cell c = striking_cell c.loop-p.invariant c.loop-p-test.true c.requires.cells

pub strike_one-requires-clause-text : goal.strike_one-requires-clause-text
strike_one-requires-clause-text c =
    let h = c.loop-p.invariant in
    let q = striking_cell h c.loop-p-test.true c.requires.cells in
    first_text c.args.area.now c.loop-p.lefts c.loop-p.p (struck_texts c.args.area.now 0 h.lefts c.requires.texts.0) (omega (arith, c.loop-p-test.true, h.lefts.len)) q.0

pub strike_one-requires-clause-texts : goal.strike_one-requires-clause-texts
strike_one-requires-clause-texts c = struck_texts c.args.area.now _ c.loop-p.invariant.rights c.requires.texts.1

pub loop-p-preserved : goal.loop-p-preserved
loop-p-preserved c =
    let h = c.loop-p.invariant in
    let q = striking_cell h c.loop-p-test.true c.requires.cells in
    striking_next h c.loop-p-test.true q.0 c.strike_one.ensures

pub returns : goal.returns
returns c = let h = c.loop-p.invariant in striking_ends h (omega (arith, c.loop-p-test.false, h.lefts.len))
