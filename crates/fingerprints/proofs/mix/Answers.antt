use Rattle.std.proofs.Common.{sym, ap, ◌∙◌}
use Rattle.laws.proofs.Renaming.Unspelled.{unspelled_zeros}
use Rattle.runs.proofs.Pieces.{piece_text, text_piece}
use Rattle.fingerprints.specs.Fingerprints.{mixed}
use Rattle.fingerprints.proofs.mix.Goals as goal

pub returns-in-Byte : goal.returns-in-Byte
unfolding mixed
returns-in-Byte c =
    let a = c.args in
    c.mix_byte.ensures ∙ sym (ap (mixed a.h) (text_piece a.sheet.now a.x ∙ ap (piece_text a.sheet.now) (sym c.piece_of.ensures ∙ c.in-Byte.is)))

pub returns-in-Unspelled : goal.returns-in-Unspelled
returns-in-Unspelled c =
    let a = c.args in
    c.mix_zeros.ensures ∙ sym (ap (mixed a.h) (text_piece a.sheet.now a.x ∙ ap (piece_text a.sheet.now) (sym c.piece_of.ensures ∙ c.in-Unspelled.is) ∙ unspelled_zeros c.in-Unspelled.more))
