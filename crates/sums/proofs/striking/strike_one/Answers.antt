use mathlib.Core.Path.{sym, ◌∙◌}
use Rattle.tree.specs.Areas.{tree_in}
use Rattle.sums.proofs.Removing.{strikes_never, strikes_none, strikes_both}
use Rattle.sums.proofs.striking.strike_one.Goals as goal

pub returns-in-Some : goal.returns-in-Some
returns-in-Some c =
    let a = c.args in
    strikes_both a.area.now a.left.now a.rights.now a.cancelling c.requires.cell.0 (sym (c.if-not-admits.false) ∙ c.admits.ensures) (c.in-Some.ensures (tree_in a.area.now a.left.now) c.requires.text.1)

pub returns-in_default : goal.returns-in_default
returns-in_default c =
    let a = c.args in
    strikes_none a.area.now a.left.now a.rights.now a.cancelling c.requires.cell.0 (sym (c.if-not-admits.false) ∙ c.admits.ensures) (c.in_default.ensures (tree_in a.area.now a.left.now) c.requires.text.1)

pub returns-then-not-admits : goal.returns-then-not-admits
returns-then-not-admits c =
    let a = c.args in
    strikes_never a.area.now a.left.now a.rights.now a.cancelling c.requires.cell.0 (sym (c.if-not-admits.true) ∙ c.admits.ensures)
