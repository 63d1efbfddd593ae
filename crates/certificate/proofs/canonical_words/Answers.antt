use Rattle.std.proofs.Common.{arith}
use Rattle.certificate.proofs.Comparisons.{settled}
use Rattle.certificate.proofs.canonical_words.Goals as goal

pub returns-clause-written : goal.returns-clause-written
returns-clause-written c =
    let q = c.requires.placed in
    let d = c.in_ok-end.ensures.written in
    let o = c.sort_sums.ensures in
    settled q.fits q.small d (omega (arith, d.room, c.split_at_mut-words.ensures.front_len, c.text_words.auto.words)) c.split_at_mut-words-2.ensures.front o.sorted c.sort_sums.auto.words o.tokens c.split_at_mut-words-2.result.1.now c.sort_sums.new.scratch
