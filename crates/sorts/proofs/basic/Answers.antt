use mathlib.Core.Path.{sym, ◌∙◌}
use Rattle.sorts.proofs.Testing.{same_some, basic_variable}
use Rattle.sorts.proofs.basic.Goals as goal

pub returns-in-Variable : goal.returns-in-Variable
returns-in-Variable c =
    let v = c.in-Variable in
    c.eq.ensures ∙ same_some v.own c.args.sort ∙ sym (basic_variable c.args.area.now c.args.i c.args.sort c.args.letter v.own (sym c.kind.ensures ∙ v.is) c.requires.0 c.requires.1)
