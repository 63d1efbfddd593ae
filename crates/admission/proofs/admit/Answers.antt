use Rattle.admission.proofs.Admitting.{refuses_words, stands}
use Rattle.admission.proofs.admit.Goals as goal

pub returns-then-words-needed : goal.returns-then-words-needed
returns-then-words-needed c = refuses_words _ _ c.in_ok-screen.ensures _ c.in_ok-form.ensures _ c.words_needed-needed.ensures c.if-words-needed.true

pub returns : goal.returns
returns c = stands _ _ c.in_ok-screen.ensures _ c.in_ok-form.ensures _ c.words_needed-needed.ensures c.if-words-needed.false
