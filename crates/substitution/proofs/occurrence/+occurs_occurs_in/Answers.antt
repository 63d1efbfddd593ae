use mathlib.Core.Path.{refl}
use native.Mathlib.Omega.{arith}
use Rattle.rules.specs.Tree.{occurs as one, occurs_in as any}
use Rattle.tree.specs.Areas.{name_in}
use Rattle.tree.proofs.Walks.{rest_falls, some_ends, some_last, some_then, some_else}
use Rattle.substitution.proofs.occurrence.+occurs_occurs_in.Goals as goal

pub occurs_in-returns-then-i-eq0 : goal.occurs_in-returns-then-i-eq0
unfolding one
occurs_in-returns-then-i-eq0 t c =
    let n = name_in c.args.area.now c.args.key in
    some_ends (one n) (any n) refl (λ u us. refl) c.args.area.now c.args.i c.if-i-eq0.true

pub occurs_in-occurs_in-requires : goal.occurs_in-occurs_in-requires
occurs_in-occurs_in-requires t c =
    let f = c.next_of-next.ensures in
    (rest_falls c.args.area.now c.args.i f.next c.decreases (omega arith) c.requires.i_link, (c.requires.key_cell, omega (arith, f.below, c.requires.i_link)))

pub occurs_in-returns-then-next-eq0 : goal.occurs_in-returns-then-next-eq0
unfolding one
occurs_in-returns-then-next-eq0 t c =
    let n = name_in c.args.area.now c.args.key in
    some_last (one n) (any n) refl (λ u us. refl) c.args.area.now c.args.i (omega arith) c.requires.i_link c.next_of-next.ensures.next c.occurs.ensures c.if-next-eq0.true

pub occurs_in-returns-then-occurs : goal.occurs_in-returns-then-occurs
unfolding one
occurs_in-returns-then-occurs t c =
    let n = name_in c.args.area.now c.args.key in
    some_then (one n) (any n) refl (λ u us. refl) c.args.area.now c.args.i (omega arith) c.requires.i_link c.next_of-next.ensures.next c.occurs-2.ensures c.if-occurs.true

pub occurs_in-returns-else-occurs : goal.occurs_in-returns-else-occurs
unfolding one
occurs_in-returns-else-occurs t c =
    let n = name_in c.args.area.now c.args.key in
    some_else (one n) (any n) refl (λ u us. refl) c.args.area.now c.args.i (omega arith) c.requires.i_link c.next_of-next.ensures.next c.occurs-2.ensures c.if-occurs.false c.occurs_in.ensures
