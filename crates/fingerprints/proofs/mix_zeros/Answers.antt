use Rattle.fingerprints.proofs.Fingerprinting.{mixed_name}
use Rattle.fingerprints.proofs.mix_zeros.Goals as goal

pub returns : goal.returns
returns c = mixed_name c.args.n c.args.h c.mix_byte.result c.from.result c.mix_bytes.result c.mix_byte.type_inv c.mix_byte.ensures c.from.ensures c.mix_bytes.ensures
