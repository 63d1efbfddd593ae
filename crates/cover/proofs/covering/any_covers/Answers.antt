use mathlib.Core.Path.{refl, sym, ap}
use lib.ListN.{length}
use native.Mathlib.Omega.{arith}
use Rattle.tree.proofs.Keeping.{keeps_same, keeps_then, grows_keeps, grows_then}
use Rattle.tree.proofs.Truncating.{keeps_truncated}
use Rattle.variables.proofs.Listed.{solution_grown}
use Rattle.cover.proofs.DecidingIn.{deciding_starts, deciding_ends, here_room, next_after, next_inside, next_matchable, deciding_yes, deciding_no}
use Rattle.cover.proofs.covering.any_covers.Goals as goal

pub loop-line-init : goal.loop-line-init
loop-line-init c = let a = c.args in (keeps_same a.area.now, refl, λ ms e. deciding_starts a.area.now a.solution ms a.start.at c.requires.start.0 e)

pub pass_member-requires-clause-solution : goal.pass_member-requires-clause-solution
pass_member-requires-clause-solution c = solution_grown (grows_keeps c.loop-line.invariant.0) c.requires.solution

pub pass_member-requires-clause-start : goal.pass_member-requires-clause-start
pass_member-requires-clause-start c =
    let h = c.loop-line.invariant in
    let k = c.requires.matchable in
    let s = ap (λ s. length s.now) h.0.lent.sheet in
    (next_inside h.0 c.requires.solution (h.2 k.members k.reads) c.in-Some.line c.in-Some.ensures, omega (arith, s, c.requires.start.1))

pub pass_member-requires-clause-room : goal.pass_member-requires-clause-room
pass_member-requires-clause-room c = here_room c.loop-line.invariant.0 c.requires.solution c.requires.room

pub pass_member-requires-clause-matchable : goal.pass_member-requires-clause-matchable
pass_member-requires-clause-matchable c =
    let h = c.loop-line.invariant in
    let k = c.requires.matchable in
    next_matchable h.0 c.requires.solution (h.2 k.members k.reads) c.in-Some.line c.in-Some.ensures k.matched

pub returns-in_default-pass_member : goal.returns-in_default-pass_member
returns-in_default-pass_member c =
    let h = c.loop-line.invariant in
    let y = rw c.in_default-pass_member.is at c.pass_member.ensures in
    ((λ ms e. deciding_yes h.0 c.requires.solution (h.2 ms e) c.in-Some.line c.in-Some.ensures y), grows_then (grows_keeps h.0) y.1)

pub loop-line-smaller : goal.loop-line-smaller
loop-line-smaller c =
    let h = c.loop-line.invariant in
    let k = c.requires.matchable in
    let y = rw c.in-Some-pass_member.is at c.pass_member.ensures in
    let x = next_after h.0 c.requires.solution (h.2 k.members k.reads) c.in-Some.line c.in-Some.ensures in
    omega (arith, x.0, x.1, y.0.low)

pub loop-line-preserved : goal.loop-line-preserved
loop-line-preserved c =
    let h = c.loop-line.invariant in
    let y = rw c.in-Some-pass_member.is at c.pass_member.ensures in
    let t = c.truncate.ensures in (
      keeps_then h.0 (keeps_truncated (sym h.0.end) y.1 t.lent t.end t.words),
      refl,
      λ ms e. deciding_no h.0 c.requires.solution (h.2 ms e) c.in-Some.line c.in-Some.ensures c.in-Some-pass_member.next y,
    )

pub returns : goal.returns
returns c =
    let h = c.loop-line.invariant in
    ((λ ms e. deciding_ends h.0 c.requires.solution (h.2 ms e) c.in_default.ensures), grows_keeps h.0)
