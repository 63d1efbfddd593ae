use Rattle.std.proofs.Common.{refl, ap, ◌∙◌}
use Rattle.rules.specs.Bytes.{same}
use Rattle.text.proofs.Library.{same_is}
use Rattle.replay.proofs.reader.closed.Goals as goal

pub returns-then-opened : goal.returns-then-opened
returns-then-opened c =
    let a = c.args in
    rw (← c.opened.ensures, c.if-opened.true) (c.eq.ensures ∙ same_is a.end.now c.as_slice.result.now ∙ ap (same a.end.now) c.as_slice.ensures)

pub returns-else-opened : goal.returns-else-opened
returns-else-opened c = rw (← c.opened.ensures, c.if-opened.false) refl
