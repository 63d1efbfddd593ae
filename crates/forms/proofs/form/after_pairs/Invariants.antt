use Prim.Native.Nat.{◌-◌}
use lib.ListN.{length}
use Rattle.rules.specs.Text.{bytes}
use Rattle.forms.specs.Members.{Walks}
use Rattle.forms.proofs.form.after_pairs.Given as goal

abbrev pub invariant-loop-pair : goal.invariant-loop-pair
invariant-loop-pair l = Walks (bytes "left=") (bytes "right=") l.sheet l.initial.cursor.at l.cursor.at

abbrev pub decreases-loop-pair : goal.decreases-loop-pair
decreases-loop-pair l = length l.sheet - l.cursor.at
