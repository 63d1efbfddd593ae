use native.Mathlib.Omega.{arith}
use mathlib.Core.Path.{ap, ◌∙◌}
use Prim.Native.Nat.{◌*◌}
use Rattle.rules.specs.Tree.{Trees}
use Rattle.rules.specs.Variants.{scheme_count, scheme_counts}
use Rattle.tree.specs.Areas.{tree_in, trees_in}
use Rattle.schemes.specs.Areas.{counted_in}
use Rattle.schemes.proofs.Counts.{ways_few}
use Rattle.schemes.proofs.Numbering.{within, tree_past, tree_counted, once}
use Rattle.schemes.proofs.counting.count_schemes.Goals as goal

pub returns-in_err-below : goal.returns-in_err-below
returns-in_err-below c =
    let t = tree_in c.args.area.now c.args.i in
    c.from_residual.ensures ∙ tree_past 1 t (c.in_err-below.ensures ∙ ap (λ (ts : Trees). counted_in (1 * scheme_counts ts)) c.child_of.ensures.children) ∙ once (scheme_count t)

pub times-requires : goal.times-requires
times-requires c =
    let a = c.args.area.now in
    let ts = trees_in a c.child_of.result in
    let w = within (1 * scheme_counts ts) c.in_ok-below.below c.in_ok-below.ensures in
    (omega (arith, w.0, w.1), omega (arith, c.ways_at.ensures, (ways_few (tree_in a c.args.i)).1))

pub returns : goal.returns
returns c =
    let a = c.args.area.now in
    let t = tree_in a c.args.i in
    let f = c.child_of.ensures.children in
    let below = c.in_ok-below.ensures ∙ ap (λ (ts : Trees). counted_in (1 * scheme_counts ts)) f in
    tree_counted 1 t c.in_ok-below.below c.ways_at.result below c.ways_at.ensures c.times.ensures ∙ once (scheme_count t)
