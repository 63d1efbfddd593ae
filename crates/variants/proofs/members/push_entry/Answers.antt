use mathlib.Core.Path.{sym, ap, ◌∙◌}
use Rattle.rules.specs.Sorts.{variable_sort}
use Rattle.tree.proofs.Spelling.{text_lent, spelled_lent}
use Rattle.variants.specs.Members.{nameable}
use Rattle.variants.proofs.ReadingMembers.{key_spelled, key_out, key_in}
use Rattle.variants.proofs.members.push_entry.Goals as goal

pub returns-then-not-is_nameable-clause-lists : goal.returns-then-not-is_nameable-clause-lists
returns-then-not-is_nameable-clause-lists c = key_out c.args.key c.args.value c.requires.cells.1 (sym (c.is_nameable.ensures ∙ ap nameable c.text-name.ensures) ∙ c.if-not-is_nameable.true)

pub push_variable-requires-clause-name : goal.push_variable-requires-clause-name
push_variable-requires-clause-name c =
    spelled_lent c.args.key c.share-rest.ensures.lent
    (key_spelled c.args.area.now c.args.key c.requires.key.0 c.requires.key.1 (sym (c.is_nameable.ensures ∙ ap nameable c.text-name.ensures) ∙ c.if-not-is_nameable.false))

pub push_variable-requires-clause-sort : goal.push_variable-requires-clause-sort
push_variable-requires-clause-sort c = c.variable_sort-sort.ensures ∙ ap variable_sort (c.text-name.ensures ∙ sym (text_lent c.args.key c.share-rest.ensures.lent))

pub returns-clause-lists : goal.returns-clause-lists
returns-clause-lists c = key_in c.args.key c.args.value c.requires.cells.1 (sym (c.is_nameable.ensures ∙ ap nameable c.text-name.ensures) ∙ c.if-not-is_nameable.false) c.share-rest.ensures c.push_variable.ensures
