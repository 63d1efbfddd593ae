use mathlib.Core.Path.{sym, ◌∙◌}
use Rattle.tree.specs.Areas.{name_in}
use Rattle.substitution.proofs.Searching.{searched_all, searched_none, searched_cell, searched_odd, searched_here, searched_on}
use Rattle.substitution.proofs.bindings.lookup.Goals as goal

pub loop-key-init : goal.loop-key-init
loop-key-init c =
    let a = c.args in
    searched_all a.area.now (name_in a.area.now a.x) a.b c.requires.b_link c.list-cells.ensures

pub returns-in_err-value : goal.returns-in_err-value
returns-in_err-value c = rw c.from_residual.ensures (searched_odd c.loop-key.invariant c.in-Some.ensures.steps c.in_err-value.ensures.steps.0)

pub same_name-requires-clause-i_cell : goal.same_name-requires-clause-i_cell
same_name-requires-clause-i_cell c = searched_cell c.loop-key.invariant c.in-Some.ensures.steps

pub returns-then-same_name : goal.returns-then-same_name
returns-then-same_name c = searched_here c.loop-key.invariant c.in-Some.ensures.steps c.in_ok-value.ensures.steps (sym c.same_name.ensures ∙ c.if-same_name.true)

pub loop-key-preserved : goal.loop-key-preserved
loop-key-preserved c = searched_on c.loop-key.invariant c.in-Some.ensures.steps c.in_ok-value.ensures.steps (sym c.same_name.ensures ∙ c.if-same_name.false)

pub returns : goal.returns
returns c = searched_none c.loop-key.invariant c.in_default.ensures.steps.0
