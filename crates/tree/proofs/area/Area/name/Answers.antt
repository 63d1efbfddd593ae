use mathlib.Core.Path.{sym, ap, ◌∙◌}
use Rattle.tree.specs.Cells.{fixed_name}
use Rattle.tree.proofs.FixedNames.{some_fixed, none_fixed}
use Rattle.tree.proofs.Naming.{name_fixed, code_some}
use Rattle.tree.proofs.area.Area.name.Goals as goal

pub returns-in-Some-of : goal.returns-in-Some-of
returns-in-Some-of c =
    let a = c.args.self.now in
    some_fixed c.start_of-code.result c.in-Some-of.name (sym c.of.ensures ∙ c.in-Some-of.is) ∙ sym (name_fixed a.sheet.now a.work.now c.args.k c.in_default.ensures ∙ ap fixed_name (sym c.start_of-code.ensures))

pub returns-in-None : goal.returns-in-None
returns-in-None c =
    let a = c.args.self.now in
    none_fixed c.start_of-code.result (code_some a c.args.k c.requires.0 c.requires.1 c.in_default.ensures c.start_of-code.ensures).0 (sym c.of.ensures ∙ c.in-None.is) ∙ sym (name_fixed a.sheet.now a.work.now c.args.k c.in_default.ensures ∙ ap fixed_name (sym c.start_of-code.ensures))
