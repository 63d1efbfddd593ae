use native.Mathlib.Omega.{arith}
use mathlib.Core.Path.{ap, ◌∙◌}
use Prim.Native.Nat.{◌+◌}
use Rattle.std.specs.Prelude.{Some}
use Rattle.tree.specs.Areas.{next_in, tree_in}
use Rattle.tree.proofs.Keeping.{adds_grows, grows_next}
use Rattle.schemes.proofs.Firings.{fst_at, snd_at, sdec_at, kdec_at}
use Rattle.schemes.proofs.Lasting.{leaves_fresh}
use Rattle.schemes.proofs.Equating.{one_in, two_in, fired_one, fired_two, fired_as, flip_first, flip_second}
use Rattle.schemes.proofs.firing.fire.Goals as goal

pub unseal-equations-requires-clause-cells : goal.unseal-equations-requires-clause-cells
unseal-equations-requires-clause-cells c =
    let x = two_in c.args.area.now c.args.below.values c.args.choice c.requires.cells.0 c.requires.choice.0 (rw c.in-Sdec.is at c.requires.choice.1) in
    let g = c.plain-pattern.ensures.puts in
    ((x.0, omega (arith, c.requires.cells.0, g.adds.grew)), omega (arith, x.1, grows_next (adds_grows g.adds) c.args.below.values c.requires.cells.0), (g.some_cell, g.inside))

pub unseal-equations-requires-in-Kdec-clause-cells : goal.unseal-equations-requires-in-Kdec-clause-cells
unseal-equations-requires-in-Kdec-clause-cells c =
    let x = two_in c.args.area.now c.args.below.values c.args.choice c.requires.cells.0 c.requires.choice.0 (rw c.in-Kdec.is at c.requires.choice.1) in
    let g = c.boxed-pattern.ensures.puts in
    ((x.0, omega (arith, c.requires.cells.0, g.adds.grew)), omega (arith, x.1, grows_next (adds_grows g.adds) c.args.below.values c.requires.cells.0), (g.some_cell, g.inside))

pub returns-in-Fst : goal.returns-in-Fst
returns-in-Fst c =
    let a = c.args.area.now in
    let n = c.args.below.left.next in
    let x = one_in a c.args.below.values c.args.choice c.requires.cells.0 c.requires.choice.0 1 (rw c.in-Fst.is at c.requires.choice.1) in
    let l = (leaves_fresh n c.requires.fresh).0 in
    λ f o name k es e. fired_as (fst_at name f es n c.args.choice (k.trees n (omega (arith, c.requires.fresh.1))) (k.trees (n + 1) c.requires.fresh.1) (tree_in a c.args.below.values) (o ∙ ap Some c.in-Fst.is) x.1 (omega (arith, c.requires.choice.0, x.2))) (fired_one c.args.below.equations (c.args.fresh + n) (n + 2) l.some_cell l.inside e c.split.ensures.lists c.split.ensures.end)

pub returns-in-Snd : goal.returns-in-Snd
returns-in-Snd c =
    let a = c.args.area.now in
    let n = c.args.below.left.next in
    let x = one_in a c.args.below.values c.args.choice c.requires.cells.0 c.requires.choice.0 1 (rw c.in-Snd.is at c.requires.choice.1) in
    let l = (leaves_fresh n c.requires.fresh).1 in
    λ f o name k es e. fired_as (snd_at name f es n c.args.choice (k.trees n (omega (arith, c.requires.fresh.1))) (k.trees (n + 1) c.requires.fresh.1) (tree_in a c.args.below.values) (o ∙ ap Some c.in-Snd.is) x.1 (omega (arith, c.requires.choice.0, x.2))) (fired_one c.args.below.equations (c.args.fresh + (n + 1)) (n + 2) l.some_cell l.inside e c.split-in-Snd.ensures.lists c.split-in-Snd.ensures.end)

pub returns-then-choice-eq1 : goal.returns-then-choice-eq1
returns-then-choice-eq1 c =
    let a = c.args.area.now in
    let x = one_in a c.args.below.values c.args.choice c.requires.cells.0 c.requires.choice.0 2 (rw c.in-Flip.is at c.requires.choice.1) in
    λ f o name k es e. fired_as (flip_first name f es c.args.below.left.next (tree_in a c.args.below.values) (o ∙ ap Some c.in-Flip.is) x.1 c.if-choice-eq1.true) (c.flip.ensures es e)

pub returns-else-choice-eq1 : goal.returns-else-choice-eq1
returns-else-choice-eq1 c =
    let a = c.args.area.now in
    let x = one_in a c.args.below.values c.args.choice c.requires.cells.0 c.requires.choice.0 2 (rw c.in-Flip.is at c.requires.choice.1) in
    λ f o name k es e. fired_as (flip_second name f es c.args.below.left.next (tree_in a c.args.below.values) (o ∙ ap Some c.in-Flip.is) x.1 (omega (arith, c.requires.choice.0, c.if-choice-eq1.false, x.2))) (c.flip-in-Flip.ensures es e)

pub returns-in-Sdec : goal.returns-in-Sdec
returns-in-Sdec c =
    let a = c.args.area.now in
    let n = c.args.below.left.next in
    let i = c.args.below.values in
    let x = two_in a i c.args.choice c.requires.cells.0 c.requires.choice.0 (rw c.in-Sdec.is at c.requires.choice.1) in
    let l = leaves_fresh n c.requires.fresh in
    let g = c.plain-pattern.ensures in
    λ f o name k es e. fired_as (sdec_at name f es n c.args.choice (k.trees n (omega (arith, c.requires.fresh.1))) (k.trees (n + 1) c.requires.fresh.1) (tree_in a i) (tree_in a (next_in a i)) (o ∙ ap Some c.in-Sdec.is) x.2 (omega (arith, c.requires.choice.0, x.3))) (fired_two c.args.below.equations i (c.args.fresh + (n + 1)) (c.args.fresh + n) (n + 2) g.puts (omega (arith, g.end)) x.0 c.requires.cells.0 l.1.some_cell l.1.inside l.0.some_cell l.0.inside x.1 c.requires.cells.1 e c.unseal-equations.ensures.lists c.unseal-equations.ensures.end)

pub returns-in-Kdec : goal.returns-in-Kdec
returns-in-Kdec c =
    let a = c.args.area.now in
    let n = c.args.below.left.next in
    let i = c.args.below.values in
    let x = two_in a i c.args.choice c.requires.cells.0 c.requires.choice.0 (rw c.in-Kdec.is at c.requires.choice.1) in
    let l = leaves_fresh n c.requires.fresh in
    let g = c.boxed-pattern.ensures in
    λ f o name k es e. fired_as (kdec_at name f es n c.args.choice (k.trees n (omega (arith, c.requires.fresh.1))) (k.trees (n + 1) c.requires.fresh.1) (tree_in a i) (tree_in a (next_in a i)) (o ∙ ap Some c.in-Kdec.is) x.2 (omega (arith, c.requires.choice.0, x.3))) (fired_two c.args.below.equations i (c.args.fresh + (n + 1)) (c.args.fresh + n) (n + 2) g.puts (omega (arith, g.end)) x.0 c.requires.cells.0 l.1.some_cell l.1.inside l.0.some_cell l.0.inside x.1 c.requires.cells.1 e c.unseal-equations-in-Kdec.ensures.lists c.unseal-equations-in-Kdec.ensures.end)
