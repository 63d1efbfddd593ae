use lib.ListN.{length, take}
use mathlib.Core.Path.{◌≡◌}
use Rattle.text.proofs.copying.copy_all.Given as goal

abbrev pub invariant-loop-i : goal.invariant-loop-i
invariant-loop-i g l = (length l.to ≡ length l.from) × (take l.i l.to ≡ take l.i l.from)
