use Rattle.replay.proofs.Records.{left_then}
use Rattle.replay.proofs.reader.Reader.number.Goals as goal

pub returns : goal.returns
returns c = left_then (_, c.take-digits.ensures.parts) (_, c.take.ensures.parts)
