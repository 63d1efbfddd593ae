use mathlib.Core.Path.{sym, ◌∙◌}
use native.Mathlib.Omega.{arith}
use Rattle.tree.specs.Areas.{name_in, tree_in}
use Rattle.tree.proofs.Keeping.{grows_keeps}
use Rattle.substitution.specs.Areas.{bindings_in}
use Rattle.elimination.specs.Areas.{pairs_in}
use Rattle.steps.proofs.Fitting.{bound_value}
use Rattle.moving.proofs.MovingInAreas.{onwards_same, onwards_bound, bound_agrees, new_sorted}
use Rattle.moving.proofs.match_key.Goals as goal

pub equivalent-requires-clause-small : goal.equivalent-requires-clause-small
equivalent-requires-clause-small c =
    let i = (bound_value _ _ _ c.requires.fit.1 c.in-Some.ensures.is_bound).small in
    let j = c.requires.fit.0.small in
    (omega arith, omega arith)

pub equivalent-requires-clause-room : goal.equivalent-requires-clause-room
equivalent-requires-clause-room c =
    let i = (bound_value _ _ _ c.requires.fit.1 c.in-Some.ensures.is_bound).small in
    let j = c.requires.fit.0.small in
    omega (arith, i, j, c.requires.room.0)

pub returns-then-equivalent : goal.returns-then-equivalent
returns-then-equivalent c =
    let a = c.args.area.now in
    let f = c.args.front in
    let i = c.requires.front in
    let m = c.requires.made in
    let e = c.equivalent.ensures in
    onwards_same f.rest c.args.made i.2 m.0 i.3 m.1 (grows_keeps e.keeps) e.keeps.end
    (bound_agrees (tree_in a c.in-Some.old) (name_in a f.left) (tree_in a f.right) (pairs_in a f.rest) (bindings_in a c.args.made) c.in-Some.ensures.is_bound (sym e.value ∙ c.if-equivalent.true))

pub returns : goal.returns
returns c =
    let a = c.args.area.now in
    let f = c.args.front in
    let i = c.requires.front in
    let m = c.requires.made in
    let s = c.in_ok-sort in
    onwards_bound f.left f.rest c.args.made i.2 i.3 m.1 c.requires.key c.push_pair-bindings.ensures.lists c.push_pair-bindings.ensures.end
    (new_sorted (name_in a f.left) (tree_in a f.right) (pairs_in a f.rest) (bindings_in a c.args.made) c.in_default.ensures.0 c.requires.key c.sort_of.ensures s.sort s.ensures.ok_part (sym c.sorted.ensures ∙ c.if-not-sorted.false))
