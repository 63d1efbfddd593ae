use mathlib.Core.Path.{sym, ap, ◌∙◌}
use lib.ListN.{get_or}
use Rattle.runs.specs.Texts.{word_text}
use Rattle.fingerprints.specs.Fingerprints.{mixed}
use Rattle.fingerprints.proofs.Fingerprinting.{texts_none, texts_more}
use Rattle.fingerprints.proofs.fingerprint.Goals as goal

pub loop-word-init : goal.loop-word-init
loop-word-init c = texts_none _ c.args.sheet.now

pub loop-word-preserved : goal.loop-word-preserved
loop-word-preserved c =
    let a = c.args in
    let i = c.loop-word.word-index in
    c.mix-mixed.ensures ∙ ap (λ m. mixed m (word_text a.sheet.now (get_or a.words.now i 0))) c.loop-word.invariant ∙ sym (texts_more _ a.sheet.now a.words.now i c.loop-word-test.true)
