use Rattle.std.proofs.Common.{sym, refl, ◌∙◌, length-take-le}
use Rattle.replay.proofs.Laws.{skipped, lends_words, lends_room, replayed}
use Rattle.replay.proofs.call.Record.replay.Goals as goal

pub returns-then-not-lends : goal.returns-then-not-lends
returns-then-not-lends c =
    let a = c.args in
    skipped a.self.now a.work.now a.output.now (sym c.lends.ensures ∙ c.if-not-lends.true)

pub slice_bounds-agrees-end : goal.slice_bounds-agrees-end
slice_bounds-agrees-end c =
    let a = c.args in
    lends_words a.self.now a.work.now a.output.now c.lends.result c.lends.ensures c.if-not-lends.false

pub slice_bounds-agrees-end-2 : goal.slice_bounds-agrees-end-2
slice_bounds-agrees-end-2 c =
    let a = c.args in
    sym (length-take-le a.self.now.words a.work.now (lends_words a.self.now a.work.now a.output.now c.lends.result c.lends.ensures c.if-not-lends.false))

pub slice_bounds-agrees-end-3 : goal.slice_bounds-agrees-end-3
slice_bounds-agrees-end-3 c =
    let a = c.args in
    lends_room a.self.now a.work.now a.output.now c.lends.result c.lends.ensures c.if-not-lends.false

pub slice_bounds-agrees-end-4 : goal.slice_bounds-agrees-end-4
slice_bounds-agrees-end-4 c =
    let a = c.args in
    sym (length-take-le a.self.now.room a.output.now (lends_room a.self.now a.work.now a.output.now c.lends.result c.lends.ensures c.if-not-lends.false))

pub returns : goal.returns
returns c =
    let a = c.args in
    replayed a.self.now a.work.now a.output.now _ _ c.agrees-same.result c.agrees-same.result c.lends.result refl c.lends.ensures c.if-not-lends.false c.agrees-same.ensures
