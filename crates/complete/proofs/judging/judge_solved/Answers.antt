use mathlib.Core.Bool.{true}
use mathlib.Core.Path.{refl, sym, ap, ◌∙◌}
use Rattle.laws.specs.Schemes.{judge_tests}
use Rattle.tree.proofs.Keeping.{grows_then, grows_keeps}
use Rattle.tree.proofs.Truncating.{keeps_truncated}
use Rattle.complete.proofs.InstancesIn.{over_judged, solved_small, solved_room, not_normal, search_solution, search_matched, searched}
use Rattle.complete.proofs.judging.judge_solved.Goals as goal

pub returns-in_default-clause-value : goal.returns-in_default-clause-value
returns-in_default-clause-value c = over_judged c.args.asked c.args.value c.args.bindings (rw c.in_default.is at c.substitute.ensures)

pub equivalent-requires-clause-small : goal.equivalent-requires-clause-small
equivalent-requires-clause-small c = solved_small c.args.asked c.args.value c.args.bindings c.requires.asks c.requires.cells.1 c.in-Some.ensures c.normalize-normal.ensures

pub equivalent-requires-clause-room : goal.equivalent-requires-clause-room
equivalent-requires-clause-room c = solved_room c.args.asked c.args.value c.args.bindings c.requires.asks c.requires.cells.1 c.in-Some.ensures c.normalize-normal.ensures c.requires.room

pub returns-then-not-equivalent-clause-value : goal.returns-then-not-equivalent-clause-value
returns-then-not-equivalent-clause-value c =
    not_normal c.args.asked c.args.value c.args.bindings c.requires.asks c.requires.cells.1 c.in-Some.ensures c.normalize-normal.ensures c.equivalent.result c.equivalent.ensures.value c.if-not-equivalent.true

pub generalized-requires-clause-solution : goal.generalized-requires-clause-solution
generalized-requires-clause-solution c =
    let t = c.truncate.ensures in
    let f = keeps_truncated refl (grows_then c.normalize-normal.ensures.grows (grows_keeps c.equivalent.ensures.keeps)) t.lent t.end t.words in
    search_solution c.args.asked c.args.value c.args.bindings c.requires.asks c.requires.cells.1 c.in-Some.ensures c.normalize-normal.ensures f

pub generalized-requires-clause-all_matched : goal.generalized-requires-clause-all_matched
generalized-requires-clause-all_matched c =
    let t = c.truncate.ensures in
    let f = keeps_truncated refl (grows_then c.normalize-normal.ensures.grows (grows_keeps c.equivalent.ensures.keeps)) t.lent t.end t.words in
    search_matched c.args.asked c.args.value c.args.bindings c.requires.asks c.requires.cells.1 c.in-Some.ensures c.normalize-normal.ensures f c.requires.matched

pub returns-then-generalized-clause-value : goal.returns-then-generalized-clause-value
returns-then-generalized-clause-value c =
    let t = c.truncate.ensures in
    let f = keeps_truncated refl (grows_then c.normalize-normal.ensures.grows (grows_keeps c.equivalent.ensures.keeps)) t.lent t.end t.words in
    sym (ap (judge_tests true) c.if-generalized.true)
    ∙ searched c.args.asked c.args.value c.args.bindings c.requires.asks c.requires.cells.1 c.in-Some.ensures c.normalize-normal.ensures f c.equivalent.result c.generalized.result c.equivalent.ensures.value c.if-not-equivalent.false c.generalized.ensures.value

pub returns-clause-value : goal.returns-clause-value
returns-clause-value c =
    let t = c.truncate.ensures in
    let f = keeps_truncated refl (grows_then c.normalize-normal.ensures.grows (grows_keeps c.equivalent.ensures.keeps)) t.lent t.end t.words in
    sym (ap (judge_tests true) c.if-generalized.false)
    ∙ searched c.args.asked c.args.value c.args.bindings c.requires.asks c.requires.cells.1 c.in-Some.ensures c.normalize-normal.ensures f c.equivalent.result c.generalized.result c.equivalent.ensures.value c.if-not-equivalent.false c.generalized.ensures.value
