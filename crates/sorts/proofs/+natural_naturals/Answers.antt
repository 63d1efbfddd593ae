use mathlib.Core.Path.{refl, sym, ◌∙◌}
use native.Mathlib.Omega.{arith}
use Rattle.rules.specs.Sorts.{natural as one, naturals as all}
use Rattle.rules.specs.declared.Sort.TheVariants.{TamNat}
use Rattle.tree.proofs.Walks.{rest_falls, each_ends, each_last, each_then, each_else}
use Rattle.sorts.proofs.Testing.{same_some, natural_variable}
use Rattle.sorts.proofs.+natural_naturals.Goals as goal

pub natural-returns-in-Variable : goal.natural-returns-in-Variable
natural-returns-in-Variable t c =
    let v = c.in-Variable in
    c.eq.ensures ∙ same_some v.sort TamNat ∙ sym (natural_variable c.args.area.now c.args.i v.sort (sym c.kind.ensures ∙ v.is) c.requires.0 c.requires.1)

pub naturals-returns-then-i-eq0 : goal.naturals-returns-then-i-eq0
unfolding one
naturals-returns-then-i-eq0 t c = each_ends one all refl (λ u us. refl) c.args.area.now c.args.i c.if-i-eq0.true

pub naturals-naturals-requires : goal.naturals-naturals-requires
naturals-naturals-requires t c =
    let f = c.next_of-next.ensures in
    (rest_falls c.args.area.now c.args.i f.next c.decreases (omega arith) c.requires, omega (arith, f.below, c.requires))

pub naturals-returns-then-next-eq0 : goal.naturals-returns-then-next-eq0
unfolding one
naturals-returns-then-next-eq0 t c = each_last one all refl (λ u us. refl) c.args.area.now c.args.i (omega arith) c.requires c.next_of-next.ensures.next c.natural.ensures c.if-next-eq0.true

pub naturals-returns-then-natural : goal.naturals-returns-then-natural
unfolding one
naturals-returns-then-natural t c = each_then one all refl (λ u us. refl) c.args.area.now c.args.i (omega arith) c.requires c.next_of-next.ensures.next c.natural-2.ensures c.if-natural.true c.naturals.ensures

pub naturals-returns-else-natural : goal.naturals-returns-else-natural
unfolding one
naturals-returns-else-natural t c = each_else one all refl (λ u us. refl) c.args.area.now c.args.i (omega arith) c.requires c.next_of-next.ensures.next c.natural-2.ensures c.if-natural.false
