use mathlib.Core.Path.{sym, ◌∙◌}
use Rattle.laws.specs.Memory.{weight}
use Rattle.tree.specs.Areas.{tree_in}
use Rattle.tree.proofs.ByKind.{tree_a_variable}
use Rattle.substitution.specs.Areas.{bindings_in}
use Rattle.elimination.specs.Areas.{pairs_in}
use Rattle.moving.proofs.MovingInAreas.{variable_load, move_variable, move_no_variable}
use Rattle.moving.proofs.advance.Goals as goal

pub match_key-requires-clause-key : goal.match_key-requires-clause-key
match_key-requires-clause-key c = tree_a_variable c.args.area.now c.args.front.left _ (sym c.kind.ensures ∙ c.in-Variable.is)

pub returns-in-Variable : goal.returns-in-Variable
returns-in-Variable c =
    let a = c.args.area.now in
    let r = tree_in a c.args.front.right in
    let ps = pairs_in a c.args.front.rest in
    let e = tree_a_variable a c.args.front.left _ (sym c.kind.ensures ∙ c.in-Variable.is) in
    rw (variable_load r (weight ps) e, move_variable r ps (bindings_in a c.args.made) e) c.match_key.ensures

pub returns-in-Application : goal.returns-in-Application
returns-in-Application c =
    let a = c.args.area.now in
    rw (move_no_variable a c.args.front.left (tree_in a c.args.front.right) (pairs_in a c.args.front.rest) (bindings_in a c.args.made) (rw c.kind.ensures at c.in-Application.is)) c.match_roots.ensures
