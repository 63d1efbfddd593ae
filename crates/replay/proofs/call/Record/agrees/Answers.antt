use Rattle.std.proofs.Common.{refl}
use Rattle.replay.specs.Replaying.{asked}
use Rattle.replay.proofs.Laws.{compares, said_same, said_other}
use Rattle.replay.proofs.call.Record.agrees.Goals as goal

pub returns-then-called-self : goal.returns-then-called-self
returns-then-called-self c =
    let a = c.args in
    let k = c.called-called in
    compares (asked a.self.now.paged) a.self.now.sheet.now a.work.now _ a.output.now _ k.result.refusal k.result.written a.self.now.refusal a.self.now.answer.now k.ensures _ (said_same _ _ (c.if-called-self.true) c.holds.ensures)

pub returns-else-called-self : goal.returns-else-called-self
returns-else-called-self c =
    let a = c.args in
    let k = c.called-called in
    compares (asked a.self.now.paged) a.self.now.sheet.now a.work.now _ a.output.now _ k.result.refusal k.result.written a.self.now.refusal a.self.now.answer.now k.ensures _ (said_other _ refl c.if-called-self.false)
