use Rattle.std.proofs.Common.{rules, ◌∙◌}
use Rattle.std.proofs.lemmas.Iterator.{YieldsList-from_slice}
use Rattle.std.proofs.lemmas.Iterator.Search.{all_from_yields_List}
use lib.Dec.{eqb}
use Rattle.tree.proofs.LongNames.{no_x, no_end, zeros_between, other_length}
use Rattle.tree.proofs.names.is_unspelled.Goals as goal

pub returns-in_default : goal.returns-in_default
returns-in_default c = no_x c.args.n c.args.text.now c.in_default.ensures.cases

pub returns-in_default-strip_suffix : goal.returns-in_default-strip_suffix
returns-in_default-strip_suffix c = no_end c.args.n c.args.text.now c.in-Some.ensures.cases.1 c.in_default-strip_suffix.ensures.cases

pub returns-then-zeros-n : goal.returns-then-zeros-n
returns-then-zeros-n c =
    let p = c.in-Some.ensures.cases in
    let q = c.in-Some-strip_suffix.ensures.cases in
    let z = c.in-Some-strip_suffix.zeros.now in
    all_from_yields_List (λ y. eqb y 48) _ _ c.all.result c.all.ensures.ran (YieldsList-from_slice z cc) (λ x b q h. search rules) ∙ zeros_between c.args.n c.args.text.now p.0 p.1 q.0 q.1 c.if-zeros-n.true

pub returns-else-zeros-n : goal.returns-else-zeros-n
returns-else-zeros-n c =
    let p = c.in-Some.ensures.cases in
    let q = c.in-Some-strip_suffix.ensures.cases in
    other_length c.args.n c.args.text.now p.0 p.1 q.0 q.1 c.if-zeros-n.false
