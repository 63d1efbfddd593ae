use native.Mathlib.Omega.{arith}
use mathlib.Core.Path.{refl, sym, ap, ◌∙◌, subst}
use Rattle.rules.specs.Tree.{apply}
use Rattle.tree.specs.Areas.{Pushes}
use Rattle.tree.specs.Spelled.{text_in}
use Rattle.tree.proofs.Lists.{list_none}
use Rattle.leaves.specs.Leaves.{leaf_sort}
use Rattle.leaves.proofs.LeafSorts.{constant_leaf, variable_leaf}
use Rattle.reading.proofs.StacksIn.{leaf_count}
use Rattle.reading.proofs.stack.push_leaf.Goals as goal

pub push_variable-requires-clause-sort : goal.push_variable-requires-clause-sort
push_variable-requires-clause-sort c = (variable_leaf (text_in c.args.area.now c.args.name) c.in-Some.sort (sym (c.leaf_sort.ensures ∙ ap leaf_sort c.text.ensures) ∙ c.in-Some.is)).1

pub push_application-requires-clause-count : goal.push_application-requires-clause-count
push_application-requires-clause-count c = (leaf_count c.args.area.now, omega arith)

pub returns-in-Some : goal.returns-in-Some
returns-in-Some c =
    rw (variable_leaf (text_in c.args.area.now c.args.name) c.in-Some.sort (sym (c.leaf_sort.ensures ∙ ap leaf_sort c.text.ensures) ∙ c.in-Some.is)).0
    c.push_variable.ensures

pub returns-in-None : goal.returns-in-None
returns-in-None c =
    let a = c.args.area.now in
    let e = constant_leaf (text_in a c.args.name) (sym (c.leaf_sort.ensures ∙ ap leaf_sort c.text.ensures) ∙ c.in-None.is) in
    subst (Pushes a c.push_application.new.self c.push_application.result c.args.next) (ap (apply (text_in a c.args.name)) (list_none a 0 refl) ∙ sym e) c.push_application.ensures
