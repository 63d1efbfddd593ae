use Rattle.rules.specs.Answer.{binding_lines}
use Rattle.laws.specs.Laying.{binding_entries, line_count}
use Rattle.tree.specs.Lists.{cells_left}
use Rattle.substitution.specs.Areas.{bindings_in}
use Rattle.verdicts.proofs.VerdictLines.{Telling}
use Rattle.verdicts.proofs.put_bindings.Given as goal

abbrev pub invariant-loop-key : goal.invariant-loop-key
invariant-loop-key l = Telling l.area l.initial.out l.out (binding_lines (bindings_in l.area l.list)) (line_count (binding_entries (bindings_in l.area l.list))) (cells_left l.cells)
