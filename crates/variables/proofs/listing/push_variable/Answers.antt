use mathlib.Core.Path.{sym, ap, ◌∙◌}
use Rattle.rules.specs.Sorts as spec
use Rattle.sheet.proofs.Words.{text_of_place}
use Rattle.variables.proofs.ListingLaws.{place_spelled}
use Rattle.variables.proofs.listing.push_variable.Goals as goal

pub push_variable-requires-clause-name : goal.push_variable-requires-clause-name
push_variable-requires-clause-name c = rw c.of.ensures (place_spelled c.args.area.now.sheet.now c.args.x c.requires.variable.0 c.requires.variable.1)

pub push_variable-requires-clause-sort : goal.push_variable-requires-clause-sort
push_variable-requires-clause-sort c =
    rw c.of.ensures (c.variable_sort-sort.ensures ∙ ap spec.variable_sort (c.text_at.ensures ∙ sym (text_of_place c.args.area.now.sheet.now c.args.x)))

pub returns : goal.returns
returns c = rw (c.of.ensures, text_of_place c.args.area.now.sheet.now c.args.x) at c.push_variable.ensures
