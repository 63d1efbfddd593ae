use native.Mathlib.Omega.{arith}
use mathlib.Core.Path.{refl, sym, ap, ◌∙◌}
use Prim.Native.Nat.{ℕ, ◌*◌}
use Rattle.rules.specs.Tree.{Trees, sizes}
use Rattle.rules.specs.Variants.{scheme_count, scheme_counts}
use Rattle.tree.specs.Areas.{next_in, tree_in, trees_in}
use Rattle.tree.proofs.Decoding.{size_pos, sizes_more}
use Rattle.tree.proofs.Lists.{list_more}
use Rattle.schemes.specs.Areas.{counted_in}
use Rattle.schemes.proofs.ByChildren.{size_children}
use Rattle.schemes.proofs.Counts.{ways_few}
use Rattle.schemes.proofs.Leaves.{no_trees}
use Rattle.schemes.proofs.Numbering.{within, tree_past, tree_counted, list_past, list_counted, none_counted}
use Rattle.schemes.proofs.counting.+count_list.Goals as goal

pub returns-then-i-eq0 : goal.returns-then-i-eq0
returns-then-i-eq0 t c =
    let a = c.args.area.now in
    none_counted c.args.count c.requires.1 ∙ ap (λ (ts : Trees). counted_in (c.args.count * scheme_counts ts)) (sym (ap (trees_in a) c.if-i-eq0.true ∙ no_trees a))

pub count_list-requires : goal.count_list-requires
count_list-requires t c =
    let a = c.args.area.now in
    let f = c.child_of.ensures in
    let z = sizes_more a.sheet.now a.arena.links c.args.i (omega (arith, c.if-i-eq0.false)) c.requires.0 in
    (omega (arith, c.decreases, z, size_children (tree_in a c.args.i), ap sizes f.children), (omega (arith, f.below, c.requires.0), c.requires.1))

pub returns-in_err-below : goal.returns-in_err-below
returns-in_err-below t c =
    let a = c.args.area.now in
    let n = c.args.count in
    let t = tree_in a c.args.i in
    let below = c.in_err-below.ensures ∙ ap (λ (ts : Trees). counted_in (n * scheme_counts ts)) c.child_of.ensures.children in
    c.from_residual.ensures ∙ list_past n t (trees_in a (next_in a c.args.i)) (tree_past n t below) ∙ ap (λ (ts : Trees). counted_in (n * scheme_counts ts)) (sym (list_more a c.args.i (omega (arith, c.if-i-eq0.false)) c.requires.0 refl))

pub times-requires : goal.times-requires
times-requires t c =
    let a = c.args.area.now in
    let ts = trees_in a c.child_of.result in
    let w = within (c.args.count * scheme_counts ts) c.in_ok-below.below c.in_ok-below.ensures in
    (omega (arith, w.0, w.1), omega (arith, c.ways_at.ensures, (ways_few (tree_in a c.args.i)).1))

pub returns-in_err-here : goal.returns-in_err-here
returns-in_err-here t c =
    let a = c.args.area.now in
    let n = c.args.count in
    let t = tree_in a c.args.i in
    let f = c.child_of.ensures.children in
    let below = c.in_ok-below.ensures ∙ ap (λ (ts : Trees). counted_in (n * scheme_counts ts)) f in
    let here = tree_counted n t c.in_ok-below.below c.ways_at.result below c.ways_at.ensures c.in_err-here.ensures in
    c.from_residual-in_err-here.ensures ∙ list_past n t (trees_in a (next_in a c.args.i)) here ∙ ap (λ (ts : Trees). counted_in (n * scheme_counts ts)) (sym (list_more a c.args.i (omega (arith, c.if-i-eq0.false)) c.requires.0 refl))

pub count_list-requires-2 : goal.count_list-requires-2
count_list-requires-2 t c =
    let a = c.args.area.now in
    let n = c.args.count in
    let t = tree_in a c.args.i in
    let f = c.child_of.ensures.children in
    let below = c.in_ok-below.ensures ∙ ap (λ (ts : Trees). counted_in (n * scheme_counts ts)) f in
    let here = within (n * scheme_count t) c.in_ok-here.here (tree_counted n t c.in_ok-below.below c.ways_at.result below c.ways_at.ensures c.in_ok-here.ensures) in
    let z = sizes_more a.sheet.now a.arena.links c.args.i (omega (arith, c.if-i-eq0.false)) c.requires.0 in
    let l = c.next_of.ensures in
    (omega (arith, c.decreases, z, size_pos t, ap (λ (j : ℕ). sizes (trees_in a j)) l.next), (omega (arith, l.below, c.requires.0), omega (arith, here.0, here.1)))

pub returns : goal.returns
returns t c =
    let a = c.args.area.now in
    let n = c.args.count in
    let t = tree_in a c.args.i in
    let f = c.child_of.ensures.children in
    let below = c.in_ok-below.ensures ∙ ap (λ (ts : Trees). counted_in (n * scheme_counts ts)) f in
    let here = tree_counted n t c.in_ok-below.below c.ways_at.result below c.ways_at.ensures c.in_ok-here.ensures in
    let rest = c.count_list-2.ensures ∙ ap (λ (j : ℕ). counted_in (c.in_ok-here.here * scheme_counts (trees_in a j))) c.next_of.ensures.next in
    list_counted n t c.in_ok-here.here (trees_in a (next_in a c.args.i)) here rest ∙ ap (λ (ts : Trees). counted_in (n * scheme_counts ts)) (sym (list_more a c.args.i (omega (arith, c.if-i-eq0.false)) c.requires.0 refl))
