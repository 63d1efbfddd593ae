use mathlib.Core.Path.{refl}
use native.Mathlib.Omega.{arith}
use Rattle.rules.specs.Tree.{ground as one, grounds as all}
use Rattle.tree.proofs.Walks.{rest_falls, each_ends, each_last, each_then, each_else}
use Rattle.substitution.proofs.ground.+ground_grounds.Goals as goal

pub grounds-returns-then-i-eq0 : goal.grounds-returns-then-i-eq0
unfolding one
grounds-returns-then-i-eq0 t c = each_ends one all refl (λ u us. refl) c.args.area.now c.args.i c.if-i-eq0.true

pub grounds-grounds-requires : goal.grounds-grounds-requires
grounds-grounds-requires t c =
    let f = c.next_of-next.ensures in
    (rest_falls c.args.area.now c.args.i f.next c.decreases (omega arith) c.requires, omega (arith, f.below, c.requires))

pub grounds-returns-then-next-eq0 : goal.grounds-returns-then-next-eq0
unfolding one
grounds-returns-then-next-eq0 t c = each_last one all refl (λ u us. refl) c.args.area.now c.args.i (omega arith) c.requires c.next_of-next.ensures.next c.ground.ensures c.if-next-eq0.true

pub grounds-returns-then-ground : goal.grounds-returns-then-ground
unfolding one
grounds-returns-then-ground t c = each_then one all refl (λ u us. refl) c.args.area.now c.args.i (omega arith) c.requires c.next_of-next.ensures.next c.ground-2.ensures c.if-ground.true c.grounds.ensures

pub grounds-returns-else-ground : goal.grounds-returns-else-ground
unfolding one
grounds-returns-else-ground t c = each_else one all refl (λ u us. refl) c.args.area.now c.args.i (omega arith) c.requires c.next_of-next.ensures.next c.ground-2.ensures c.if-ground.false
