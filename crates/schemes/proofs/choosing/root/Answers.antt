use native.Mathlib.Omega.{arith}
use mathlib.Core.Path.{◌∙◌}
use Rattle.tree.specs.Areas.{name_in}
use Rattle.schemes.proofs.AtRoot.{root_alone, root_stays, choice_inside, root_fires}
use Rattle.schemes.proofs.choosing.root.Goals as goal

pub returns-in_default : goal.returns-in_default
returns-in_default c = λ name f es e. root_alone c.requires c.in_default.ensures.ways name c.unchanged-values.ensures es e

pub returns-then-choice-eq0 : goal.returns-then-choice-eq0
returns-then-choice-eq0 c = λ name f es e. root_stays c.requires (c.choices.ensures ∙ c.in-Some.ensures.ways) name c.if-choice-eq0.true c.unchanged-values-then-choice-eq0.ensures es e

pub fire-fired-requires-clause-choice : goal.fire-fired-requires-clause-choice
fire-fired-requires-clause-choice c =
    let r = c.in-Some.ensures.rule in
    (omega (arith, c.if-choice-eq0.false), choice_inside c.requires (c.choices.ensures ∙ c.in-Some.ensures.ways) (omega (arith, c.if-choice-eq0.false)) r.0 r.1)

pub returns : goal.returns
returns c =
    let r = c.in-Some.ensures.rule in
    λ name f. root_fires c.requires (c.choices.ensures ∙ c.in-Some.ensures.ways) (omega (arith, c.if-choice-eq0.false)) r.0 r.1 name (c.fire-fired.ensures (name_in c.args.area.now c.args.i) r.1 name f)
