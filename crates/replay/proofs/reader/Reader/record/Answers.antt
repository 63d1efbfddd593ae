use Rattle.std.proofs.Common.{sym, ◌∙◌}
use Rattle.replay.proofs.Records.{left_then, reads}
use Rattle.replay.proofs.reader.Reader.record.Goals as goal

pub returns : goal.returns
returns c =
    let numbers = left_then c.number-words.ensures (left_then c.number-room.ensures (left_then c.number-refusal.ensures (left_then c.number-sheet_bytes.ensures c.number-answer_bytes.ensures))) in
    reads _ _ (left_then (_, c.take.ensures.parts) numbers) c.line-label.ensures c.take-sheet.ensures.parts c.take-answer.ensures.parts c.take-end.ensures.parts (sym c.closed.ensures ∙ c.if-not-closed.false)
