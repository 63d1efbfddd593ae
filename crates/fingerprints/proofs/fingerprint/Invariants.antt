use mathlib.Core.Path.{◌≡◌}
use lib.ListN.{take}
use Rattle.runs.specs.Texts.{texts}
use Rattle.fingerprints.specs.Fingerprints.{fingerprint}
use Rattle.fingerprints.proofs.fingerprint.Given as goal

abbrev pub invariant-loop-word : goal.invariant-loop-word
invariant-loop-word l = l.mixed ≡ fingerprint (texts l.sheet (take l.word-index l.words))
