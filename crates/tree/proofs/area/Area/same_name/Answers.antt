use mathlib.Core.Path.{ap, ◌∙◌}
use Rattle.rules.specs.Bytes.{same}
use Rattle.text.proofs.Sameness.{same_swap}
use Rattle.tree.specs.Areas.{name_in}
use Rattle.tree.proofs.Naming.{names_of_words, names_apart}
use Rattle.tree.proofs.area.Area.same_name.Goals as goal

pub returns-then-self-i : goal.returns-then-self-i
returns-then-self-i c = names_of_words c.args.self.now c.args.i c.args.j c.if-self-i.true

pub returns-in-Some-spelled : goal.returns-in-Some-spelled
returns-in-Some-spelled c =
    let a = c.args.self.now in
    c.name_is-in-Some-spelled.ensures ∙ ap (same (name_in a c.args.j)) c.in-Some-spelled.ensures ∙ same_swap (name_in a c.args.j) (name_in a c.args.i)

pub returns-in-None : goal.returns-in-None
returns-in-None c =
    let i = c.requires.i_cell in
    let j = c.requires.j_cell in
    names_apart c.args.self.now c.args.i c.args.j i.0 i.1 j.0 j.1 c.if-self-i.false c.in-None.ensures c.in_default.ensures
