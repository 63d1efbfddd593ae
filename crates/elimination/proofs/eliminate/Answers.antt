use mathlib.Core.Path.{◌≡◌, sym, ◌∙◌}
use Rattle.std.proofs.lemmas.Result.{err_from_is_err_and}
use Rattle.rules.specs.declared.Ending.TheVariants.{Unsupported}
use Rattle.tree.specs.Areas.{name_in, tree_in}
use Rattle.tree.proofs.Keeping.{grows_same}
use Rattle.elimination.specs.Areas.{pairs_in}
use Rattle.elimination.proofs.Eliminating.{no_sort, checked, sort_checked}
use Rattle.elimination.proofs.eliminate.Goals as goal

pub returns-in_err-sort : goal.returns-in_err-sort
returns-in_err-sort c =
    let a = c.args.area.now in
    let f = c.args.front in
    let p = err_from_is_err_and c.from_residual.result c.from_residual.ensures.1 in
    let o = c.in_err-sort.ensures in
    let m = rw o.ok_part at o.value in
    let e : c.in_err-sort.field-0.0 ≡ Unsupported = cc in
    rw (p.1, p.2, e) (no_sort (name_in a f.left) (tree_in a f.right) (pairs_in a f.rest) c.requires.key c.sort_of.ensures o.ok_part, grows_same a)

pub returns-then-occurs : goal.returns-then-occurs
returns-then-occurs c =
    let a = c.args.area.now in
    let f = c.args.front in
    let s = c.in_ok-sort in
    (checked (name_in a f.left) (tree_in a f.right) (pairs_in a f.rest) c.requires.key s.sort c.sort_of.ensures s.ensures.ok_part (sym c.occurs.ensures ∙ c.if-occurs.true), grows_same a)

pub returns-then-sorted : goal.returns-then-sorted
returns-then-sorted c =
    let a = c.args.area.now in
    let f = c.args.front in
    let s = c.in_ok-sort in
    rw (sort_checked (name_in a f.left) (tree_in a f.right) (pairs_in a f.rest) c.requires.key s.sort c.sort_of.ensures s.ensures.ok_part (sym c.occurs.ensures ∙ c.if-occurs.false) (sym c.sorted.ensures ∙ c.if-sorted.true))
    c.bind.ensures

pub returns : goal.returns
returns c =
    let a = c.args.area.now in
    let f = c.args.front in
    let s = c.in_ok-sort in
    rw (sort_checked (name_in a f.left) (tree_in a f.right) (pairs_in a f.rest) c.requires.key s.sort c.sort_of.ensures s.ensures.ok_part (sym c.occurs.ensures ∙ c.if-occurs.false) (sym c.sorted.ensures ∙ c.if-sorted.false))
    c.swap.ensures
