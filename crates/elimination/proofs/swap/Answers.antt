use mathlib.Core.Path.{sym, ◌∙◌}
use Rattle.tree.specs.Areas.{name_in}
use Rattle.tree.proofs.ByKind.{variable_of_sort}
use Rattle.elimination.specs.Areas.{pairs_in}
use Rattle.elimination.proofs.Eliminating.{swap_turned}
use Rattle.elimination.proofs.swap.Goals as goal

pub bind-requires-clause-front : goal.bind-requires-clause-front
bind-requires-clause-front c =
    let i = c.requires.front in
    rw c.turned.ensures (i.1, i.0, i.2, i.3)

pub bind-requires-clause-key : goal.bind-requires-clause-key
bind-requires-clause-key c = rw c.turned.ensures (variable_of_sort c.args.area.now c.args.front.right c.in-Some.own (sym c.sort_of.ensures ∙ c.in-Some.is))

pub returns-in-Some : goal.returns-in-Some
returns-in-Some c =
    let a = c.args.area.now in
    let f = c.args.front in
    let e = sym c.sort_of.ensures ∙ c.in-Some.is in
    rw (swap_turned c.args.sort (name_in a f.left) (pairs_in a f.rest) c.requires.key (name_in a f.right) (variable_of_sort a f.right c.in-Some.own e) e (sym c.sorted.ensures ∙ c.if-sorted.true))
    (rw c.turned.ensures at c.bind.ensures)
