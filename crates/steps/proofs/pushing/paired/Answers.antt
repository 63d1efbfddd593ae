use Prim.Native.Nat.{ℕ}
use mathlib.Core.Path.{◌≡◌, ap, ◌∙◌}
use mathlib.Core.Logic.{inl}
use lib.ListN.{length}
use native.Mathlib.Omega.{arith}
use Rattle.std.proofs.lemmas.Iterator.Consumers.{count_from_yields_List, YieldsList-from_first}
use Rattle.tree.specs.Areas.{trees_in}
use Rattle.tree.specs.Lists.{cells_from, cells_left}
use Rattle.steps.proofs.Pairing.{cells_count, none_paired, paired_when}
use Rattle.steps.proofs.pushing.paired.Goals as goal

pub count-pairs-requires-clause-fits : goal.count-pairs-requires-clause-fits
count-pairs-requires-clause-fits c = inl (omega (arith, ap length c.list.ensures, (cells_count c.args.area.now c.args.left c.requires.0).1, c.ranges.left.fits))

pub returns-then-pairs-eq0 : goal.returns-then-pairs-eq0
returns-then-pairs-eq0 c =
    let a = c.args.area.now in
    let e : c.count-pairs.result ≡ length (cells_from a c.args.left) = count_from_yields_List _ _ c.count-pairs.ensures.ran (YieldsList-from_first (λ (k : ℕ). k) cells_left _ c.list.ensures) in
    none_paired (trees_in a c.args.left) (trees_in a c.args.right) (omega (arith, e, (cells_count a c.args.left c.requires.0).0, c.if-pairs-eq0.true))

pub count-requires-clause-fits : goal.count-requires-clause-fits
count-requires-clause-fits c = inl (omega (arith, ap length c.list-2.ensures, (cells_count c.args.area.now c.args.right c.requires.1).1, c.ranges.right.fits))

pub returns : goal.returns
returns c =
    let a = c.args.area.now in
    let e : c.count-pairs.result ≡ length (cells_from a c.args.left) = count_from_yields_List _ _ c.count-pairs.ensures.ran (YieldsList-from_first (λ (k : ℕ). k) cells_left _ c.list.ensures) in
    let f : c.count.result ≡ length (cells_from a c.args.right) = count_from_yields_List _ _ c.count.ensures.ran (YieldsList-from_first (λ (k : ℕ). k) cells_left _ c.list-2.ensures) in
    c.then_some.ensures ∙ paired_when (trees_in a c.args.left) (trees_in a c.args.right) _ _ (omega (arith, c.if-pairs-eq0.false)) (e ∙ (cells_count a c.args.left c.requires.0).0) (f ∙ (cells_count a c.args.right c.requires.1).0)
