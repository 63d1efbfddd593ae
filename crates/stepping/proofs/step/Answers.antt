use mathlib.Core.Path.{sym, ◌∙◌}
use native.Mathlib.Omega.{arith}
use Rattle.std.proofs.Common.{rules}
use Rattle.tree.specs.Areas.{tree_in}
use Rattle.tree.proofs.ByKind.{tree_a_variable}
use Rattle.elimination.specs.Areas.{pairs_in}
use Rattle.stepping.proofs.Taking.{top_apart, rest_apart, below_apart, no_variable_in, same_goes, left_eliminated, right_eliminated, neither_eliminated, goes_dropped, taken_as}
use Rattle.stepping.proofs.step.Goals as goal

pub same_pair-requires-clause-apart : goal.same_pair-requires-clause-apart
same_pair-requires-clause-apart c =
    let a = c.args.area.now in
    let f = c.args.front in
    λ e. top_apart (tree_in a f.left) (tree_in a f.right) (pairs_in a f.rest) c.args.apart c.requires.differing e

pub map-requires : goal.map-requires
map-requires c =
    let a = c.args.area.now in
    let f = c.args.front in
    λ x e i j. (rest_apart (tree_in a f.left) (tree_in a f.right) (pairs_in a f.rest) x c.requires.differing e (sym c.same_pair.ensures ∙ c.if-same_pair.true)).0

pub eliminate-requires-clause-key : goal.eliminate-requires-clause-key
eliminate-requires-clause-key c = tree_a_variable c.args.area.now c.args.front.left _ (sym c.kind.ensures ∙ c.in-Variable-default.is-0)

pub eliminate-requires-in_default-Variable : goal.eliminate-requires-in_default-Variable
eliminate-requires-in_default-Variable c =
    let i = c.requires.front in
    let room = c.requires.room in
    let key = tree_a_variable c.args.area.now c.args.front.right _ (sym c.kind-2.ensures ∙ c.in_default-Variable.is-1) in
    rw c.turned.ensures (record { front = (i.1, i.0, i.2, i.3); key = key; room = (omega (arith, room.0), omega (arith, room.1)) })

pub returns-in-Variable-default : goal.returns-in-Variable-default
returns-in-Variable-default c =
    let a = c.args.area.now in
    let f = c.args.front in
    taken_as a c.eliminate.new.area _ c.eliminate.result
    (left_eliminated (tree_in a f.left) (tree_in a f.right) (pairs_in a f.rest) (sym c.same_pair.ensures ∙ c.if-same_pair.false) (tree_a_variable a f.left _ (sym c.kind.ensures ∙ c.in-Variable-default.is-0)))
    c.eliminate.ensures

pub returns-in_default-Variable : goal.returns-in_default-Variable
returns-in_default-Variable c =
    let a = c.args.area.now in
    let f = c.args.front in
    let n = no_variable_in a f.left (λ v e. c.in_default-Variable.not-Variable-0 v (c.kind.ensures ∙ e)) in
    taken_as a c.eliminate-in_default-Variable.new.area _ c.eliminate-in_default-Variable.result
    (right_eliminated (tree_in a f.left) (tree_in a f.right) (pairs_in a f.rest) (sym c.same_pair.ensures ∙ c.if-same_pair.false) n (tree_a_variable a f.right _ (sym c.kind-2.ensures ∙ c.in_default-Variable.is-1)))
    (rw c.turned.ensures at c.eliminate-in_default-Variable.ensures)

pub returns-in_default : goal.returns-in_default
returns-in_default c =
    let a = c.args.area.now in
    let f = c.args.front in
    let n = no_variable_in a f.left (λ v e. c.in_default.not-Variable-0 v (c.kind.ensures ∙ e)) in
    let m = no_variable_in a f.right (λ v e. c.in_default.not-Variable-1 v (c.kind-2.ensures ∙ e)) in
    rw (neither_eliminated (tree_in a f.left) (tree_in a f.right) (pairs_in a f.rest) (sym c.same_pair.ensures ∙ c.if-same_pair.false) n m) c.decompose.ensures

pub returns-then-same_pair : goal.returns-then-same_pair
returns-then-same_pair c =
    let a = c.args.area.now in
    let f = c.args.front in
    let l = tree_in a f.left in
    let r = tree_in a f.right in
    let ps = pairs_in a f.rest in
    let e = sym c.same_pair.ensures ∙ c.if-same_pair.true in
    goes_dropped a _ f.rest c.requires.front.2 c.requires.front.3 (same_goes l r ps e) (below_apart l r ps c.args.apart c.map.result c.requires.differing e c.map.ensures.cases (λ x y q. search rules))
