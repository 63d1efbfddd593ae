use Rattle.std.specs.Prelude.{◌≡◌, [], replicate}
use Rattle.rules.specs.SheetLines.{ended}
use Rattle.rules.specs.Page.{page_line}
use Rattle.text.specs.Printing.{printed_over}
use Rattle.layout.proofs.lines.put_blank_lines.Given as goal

abbrev pub invariant-loop-i : goal.invariant-loop-i
invariant-loop-i l = l.output ≡ printed_over l.initial.output l.at (ended (replicate l.i (page_line [] [])))
