use native.Mathlib.Omega.{arith}
use mathlib.Core.Path.{refl}
use Rattle.equivalence.proofs.Wording.{code_small, word_coded, word_placed}
use Rattle.equivalence.proofs.words.word_of.Goals as goal

pub overflow_add-result : goal.overflow_add-result
overflow_add-result c =
    let a = c.args.area.now in
    omega (arith, code_small a.sheet.now a.work.now c.args.k _ (a.arena.cell c.args.k c.requires.0 c.requires.1) refl c.if-place-eq0.true)

pub returns-then-place-eq0 : goal.returns-then-place-eq0
returns-then-place-eq0 c =
    let a = c.args.area.now in
    word_coded a.sheet.now a.work.now c.args.k _ (a.arena.cell c.args.k c.requires.0 c.requires.1) refl _ refl c.if-place-eq0.true

pub returns : goal.returns
returns c =
    let a = c.args.area.now in
    word_placed a.sheet.now a.work.now c.args.k _ (a.arena.cell c.args.k c.requires.0 c.requires.1) refl c.if-place-eq0.false
