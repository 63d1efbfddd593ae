use mathlib.Core.Path.{refl, sym, ◌∙◌}
use native.Mathlib.Omega.{arith}
use Rattle.std.proofs.Common.{rules}
use Rattle.std.specs.Prelude.{Some, None}
use Rattle.rules.specs.Sorts.{refinable as one, refinables as all}
use Rattle.tree.proofs.Walks.{rest_falls, each_ends, each_last, each_then, each_else}
use Rattle.sorts.proofs.Testing.{refinable_variable}
use Rattle.sorts.proofs.+refinable_refinables.Goals as goal

pub refinable-returns-in-Variable-Some : goal.refinable-returns-in-Variable-Some
refinable-returns-in-Variable-Some t c =
    c.meets.ensures ∙ sym (refinable_variable c.args.area.now c.args.i c.args.sort (Some c.in-Variable-Some.own) (search rules) c.requires.0 c.requires.1)

pub refinable-returns-in-Variable-None : goal.refinable-returns-in-Variable-None
refinable-returns-in-Variable-None t c = sym (refinable_variable c.args.area.now c.args.i c.args.sort None (search rules) c.requires.0 c.requires.1)

pub refinables-returns-then-i-eq0 : goal.refinables-returns-then-i-eq0
unfolding one
refinables-returns-then-i-eq0 t c = each_ends (one c.args.sort) (all c.args.sort) refl (λ u us. refl) c.args.area.now c.args.i c.if-i-eq0.true

pub refinables-refinables-requires : goal.refinables-refinables-requires
refinables-refinables-requires t c =
    let f = c.next_of-next.ensures in
    (rest_falls c.args.area.now c.args.i f.next c.decreases (omega arith) c.requires, omega (arith, f.below, c.requires))

pub refinables-returns-then-next-eq0 : goal.refinables-returns-then-next-eq0
unfolding one
refinables-returns-then-next-eq0 t c = each_last (one c.args.sort) (all c.args.sort) refl (λ u us. refl) c.args.area.now c.args.i (omega arith) c.requires c.next_of-next.ensures.next c.refinable.ensures c.if-next-eq0.true

pub refinables-returns-then-refinable : goal.refinables-returns-then-refinable
unfolding one
refinables-returns-then-refinable t c = each_then (one c.args.sort) (all c.args.sort) refl (λ u us. refl) c.args.area.now c.args.i (omega arith) c.requires c.next_of-next.ensures.next c.refinable-2.ensures c.if-refinable.true c.refinables.ensures

pub refinables-returns-else-refinable : goal.refinables-returns-else-refinable
unfolding one
refinables-returns-else-refinable t c = each_else (one c.args.sort) (all c.args.sort) refl (λ u us. refl) c.args.area.now c.args.i (omega arith) c.requires c.next_of-next.ensures.next c.refinable-2.ensures c.if-refinable.false
