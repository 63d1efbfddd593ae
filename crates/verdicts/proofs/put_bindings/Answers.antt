use Rattle.verdicts.proofs.VerdictLines.{telling_all, telling_end, telling_key, telling_odd, telling_value, key_past, value_past, telling_more}
use Rattle.verdicts.proofs.put_bindings.Goals as goal

pub loop-key-init : goal.loop-key-init
loop-key-init c = let a = c.args in telling_all a.area.now a.out.now a.list c.requires c.list-cells.ensures

pub line-requires : goal.line-requires
line-requires c = telling_key c.loop-key.invariant c.in-Some-Some.ensures.steps

pub returns-in_err-line : goal.returns-in_err-line
returns-in_err-line c =
    let v = c.in-Some-Some in
    rw c.from_residual.ensures (key_past c.loop-key.invariant v.ensures.steps v.ensures'.steps c.in_err-line.ensures)

pub line-requires-in-Some-Some : goal.line-requires-in-Some-Some
line-requires-in-Some-Some c =
    let v = c.in-Some-Some in
    telling_value c.loop-key.invariant v.ensures.steps v.ensures'.steps

pub returns-in_err-line-2 : goal.returns-in_err-line-2
returns-in_err-line-2 c =
    let v = c.in-Some-Some in
    rw c.from_residual-in_err-line-2.ensures (value_past c.loop-key.invariant v.ensures.steps v.ensures'.steps c.in_ok-line.ensures c.in_err-line-2.ensures)

pub loop-key-preserved : goal.loop-key-preserved
loop-key-preserved c =
    let v = c.in-Some-Some in
    telling_more c.loop-key.invariant v.ensures.steps v.ensures'.steps c.in_ok-line.ensures c.in_ok-line-2.ensures

pub returns-in_default : goal.returns-in_default
returns-in_default c = absurd (telling_odd c.loop-key.invariant c.in_default.ensures.steps c.in_default.ensures'.steps.0)

pub returns-in_default-2 : goal.returns-in_default-2
returns-in_default-2 c = telling_end c.loop-key.invariant (rw c.in_default.is-0 at c.next.ensures.steps).0
