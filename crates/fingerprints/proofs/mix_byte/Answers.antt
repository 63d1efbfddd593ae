use Rattle.fingerprints.proofs.Fingerprinting.{byte_zero, byte_other}
use Rattle.fingerprints.proofs.mix_byte.Goals as goal

pub returns-then-b-eq48 : goal.returns-then-b-eq48
returns-then-b-eq48 c = byte_zero c.args.h c.args.b c.from.result c.if-b-eq48.true c.from.ensures

pub returns : goal.returns
returns c = byte_other c.args.h c.args.b c.from-2.result c.from-3.result c.if-b-eq48.false c.from-2.ensures c.from-3.ensures
