use native.Mathlib.Omega.{arith}
use Rattle.reading.proofs.Keeping.{sheet_length}
use Rattle.reading.proofs.RoundsIn.{wants_starts, wants_held, wants_ends, wants_none, named_ends, has_ends, name_at, name_spelled, name_room, leaf_room, wants_opens, opens_past, wants_leaf, has_none, comma_none, shut_none, has_wants, comma_past, shut_past, shut_held, shut_fits, shut_stops, shut_goes, has_stops}
use Rattle.reading.proofs.read.Goals as goal

pub term-init : goal.term-init
term-init c = let t = c.requires.text in wants_starts c.requires.limit.0 c.requires.limit.1 t.0 t.1 t.2 t.3 c.requires.room.0

pub begin-requires-clause-room : goal.begin-requires-clause-room
begin-requires-clause-room c = name_room c.term.invariant c.in_ok-name.ensures c.in-Name.is c.requires.room.0

pub begin-requires-clause-name : goal.begin-requires-clause-name
begin-requires-clause-name c = name_spelled c.term.invariant c.in_ok-name.ensures c.in-Name.is

pub term-smaller-in-Begin : goal.term-smaller-in-Begin
term-smaller-in-Begin c = omega (arith, opens_past c.term.invariant c.in_ok-name.ensures c.in-Name.is c.in_ok-inner.ensures c.in-Begin.is)

pub term-preserved-in-Begin : goal.term-preserved-in-Begin
term-preserved-in-Begin c = wants_opens c.term.invariant c.in_ok-name.ensures c.in-Name.is c.in_ok-inner.ensures c.in-Begin.is c.begin.ensures

pub leaf-requires : goal.leaf-requires
leaf-requires c =
    let h = c.term.invariant in
    record { held = wants_held h; room = (leaf_room h c.in_ok-name.ensures c.in-Name.is, omega (arith, h.task.limit_is)); name = name_spelled h c.in_ok-name.ensures c.in-Name.is }

pub loop-delimiter-init : goal.loop-delimiter-init
loop-delimiter-init c = wants_leaf c.term.invariant c.in_ok-name.ensures c.in-Name.is c.in_ok-inner.ensures c.in_default-2.not-Begin c.leaf.ensures.end c.leaf.ensures.adds

pub returns-in-Stop : goal.returns-in-Stop
returns-in-Stop c = has_stops c.loop-delimiter.stack.depth c.loop-delimiter.invariant c.in-Some.ensures c.in-Stop.is c.finished.result c.finished.ensures

pub term-smaller : goal.term-smaller
term-smaller c =
    let n = name_at c.term.invariant c.in_ok-name.ensures c.in-Name.is in
    omega (arith, n.past, n.some, comma_past c.loop-delimiter.invariant c.in-Some.ensures c.in-Comma.past c.in-Comma.is)

pub term-preserved : goal.term-preserved
term-preserved c = has_wants c.loop-delimiter.invariant c.in-Some.ensures c.in-Comma.past c.if-stack-eq0.false c.in-Comma.is

pub close-requires : goal.close-requires
close-requires c =
    let h = c.loop-delimiter.invariant in
    let s = c.in-Some.ensures in
    let e = c.if-stack-eq0-2.false in
    record { held = shut_held h s c.in-Shut.past e c.in-Shut.is; room = (shut_fits h s c.in-Shut.past e c.in-Shut.is, omega (arith, h.task.limit_is)); small = omega (arith, h.task.small, sheet_length h.lent) }

pub returns-in_default-close : goal.returns-in_default-close
returns-in_default-close c = shut_stops c.loop-delimiter.invariant c.in-Some.ensures c.in-Shut.past c.if-stack-eq0-2.false c.in-Shut.is c.in_default-close.ensures

pub loop-delimiter-smaller : goal.loop-delimiter-smaller
loop-delimiter-smaller c = omega (arith, shut_past c.loop-delimiter.invariant c.in-Some.ensures c.in-Shut.past c.if-stack-eq0-2.false c.in-Shut.is)

pub loop-delimiter-preserved : goal.loop-delimiter-preserved
loop-delimiter-preserved c = shut_goes c.loop-delimiter.invariant c.in-Some.ensures c.in-Shut.past c.if-stack-eq0-2.false c.in-Shut.is c.in-Some-close.ensures

pub returns-in_default : goal.returns-in_default
returns-in_default c = wants_none c.term.invariant c.in_ok-name.ensures c.in_default.not-Name

pub returns-then-stack-eq0 : goal.returns-then-stack-eq0
returns-then-stack-eq0 c = comma_none c.loop-delimiter.invariant c.in-Some.ensures c.in-Comma.past c.if-stack-eq0.true c.in-Comma.is

pub returns-then-stack-eq0-2 : goal.returns-then-stack-eq0-2
returns-then-stack-eq0-2 c = shut_none c.loop-delimiter.invariant c.in-Some.ensures c.in-Shut.past c.if-stack-eq0-2.true c.in-Shut.is

pub returns-in_default-delimiter : goal.returns-in_default-delimiter
returns-in_default-delimiter c =
    let d = c.in_default-delimiter in
    has_none c.loop-delimiter.invariant c.in-Some.ensures d.not-Stop d.not-Comma d.not-Shut

pub returns-in_default-symbol : goal.returns-in_default-symbol
returns-in_default-symbol c = has_ends c.loop-delimiter.invariant c.in_default-symbol.ensures

pub returns-in_err-name : goal.returns-in_err-name
returns-in_err-name c = rw c.from_residual.ensures (wants_ends c.term.invariant c.in_err-name.ensures)

pub returns-in_err-inner : goal.returns-in_err-inner
returns-in_err-inner c = rw c.from_residual-in_err-inner.ensures (named_ends c.term.invariant c.in_ok-name.ensures c.in-Name.is c.in_err-inner.ensures)
