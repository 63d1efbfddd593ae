use Rattle.std.proofs.lemmas.Result.{err_from_is_err_and}
use Rattle.kinds.proofs.Sounds.{sound_unread, sound_decided}
use Rattle.kinds.proofs.sound_of.Goals as goal

pub returns-in_err-index : goal.returns-in_err-index
returns-in_err-index c =
    let p = err_from_is_err_and c.from_residual.result c.from_residual.ensures.1 in
    rw (p.1, p.2, c.in_err-index.ensures.0) (sound_unread c.requires.one_member c.in_err-index.ensures.1)

pub returns : goal.returns
returns c = sound_decided c.requires.one_member c.in_ok-index.ensures c.sound-claim.ensures
