use Rattle.std.proofs.Common.{rules, sym, ◌∙◌}
use borrow.Author.Tests.{lt-leb, le-leb}
use Rattle.std.proofs.lemmas.Iterator.{YieldsList-from_slice}
use Rattle.std.proofs.lemmas.Iterator.Search.{all_from_yields_List}
use Rattle.rules.specs.Call.{plain}
use Rattle.text.proofs.Library.{all_is}
use Rattle.text.specs.Screen.{screened}
use Rattle.text.proofs.screen.Goals as goal

pub returns-then-sheet-gt65536 : goal.returns-then-sheet-gt65536
unfolding screened
returns-then-sheet-gt65536 c = simp (lt-leb _ _ c.if-sheet-gt65536.true)

pub returns-then-not-all : goal.returns-then-not-all
unfolding screened
returns-then-not-all c =
    let s = c.args.sheet.now in
    let e = all_from_yields_List plain _ _ c.all.result c.all.ensures.ran (YieldsList-from_slice s cc) (λ x b q h. search rules) in
    simp (le-leb _ _ c.if-sheet-gt65536.false, sym (all_is plain s) ∙ sym e ∙ c.if-not-all.true)

pub returns : goal.returns
unfolding screened
returns c =
    let s = c.args.sheet.now in
    let e = all_from_yields_List plain _ _ c.all.result c.all.ensures.ran (YieldsList-from_slice s cc) (λ x b q h. search rules) in
    simp (le-leb _ _ c.if-sheet-gt65536.false, sym (all_is plain s) ∙ sym e ∙ c.if-not-all.false)
