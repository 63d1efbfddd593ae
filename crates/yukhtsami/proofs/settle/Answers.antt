use mathlib.Core.Path.{refl}
use native.Mathlib.Omega.{arith}
use Rattle.tree.proofs.Pushing.{arena_none}
use Rattle.kinds.proofs.KindLaws.{least_words, form_ready}
use Rattle.yukhtsami.specs.declared.Layout.TheVariants as layout
use Rattle.yukhtsami.proofs.Calling.{decided_held, decided_columned, decided_settles}
use Rattle.yukhtsami.proofs.settle.Goals as goal

pub invariant_of-area : goal.invariant_of-area
invariant_of-area c =
    let a = c.args in
    record { arena = arena_none a.sheet.now a.work.now (omega (arith, least_words a.sheet.now a.form c.requires.enough_words)) }

pub decide-decision-requires-clause-ready : goal.decide-decision-requires-clause-ready
decide-decision-requires-clause-ready c = form_ready c.args.form refl c.requires.decoded c.requires.enough_words

pub give-requires : goal.give-requires
give-requires c = decided_held c.args.sheet.now c.args.form c.requires.decoded c.decide-decision.ensures

pub give_pages-requires-clause-standing : goal.give_pages-requires-clause-standing
give_pages-requires-clause-standing c = decided_held c.args.sheet.now c.args.form c.requires.decoded c.decide-decision.ensures

pub give_pages-requires-clause-columned : goal.give_pages-requires-clause-columned
give_pages-requires-clause-columned c = decided_columned c.args.sheet.now c.args.form c.requires.decoded c.decide-decision.ensures

pub returns-in-Lines : goal.returns-in-Lines
returns-in-Lines c = rw c.in-Lines.is (decided_settles c.args.sheet.now c.args.form layout.Lines c.decide-decision.result c.decide-decision.ensures c.give.ensures)

pub returns-in-Pages : goal.returns-in-Pages
returns-in-Pages c = rw c.in-Pages.is (decided_settles c.args.sheet.now c.args.form layout.Pages c.decide-decision.result c.decide-decision.ensures c.give_pages.ensures)
