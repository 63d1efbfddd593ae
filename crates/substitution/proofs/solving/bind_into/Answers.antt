use Rattle.substitution.proofs.Putting.{puts_into, over_into}
use Rattle.substitution.proofs.solving.bind_into.Goals as goal

pub returns-in_err-built : goal.returns-in_err-built
returns-in_err-built c =
    let a = c.args in
    let one = c.push_pair-one.ensures in
    λ ps e. rw c.from_residual.ensures (over_into a.key a.value a.stack c.requires.cells.2 one.lists one.end ps e c.in_err-built.ensures)

pub returns : goal.returns
returns c =
    let a = c.args in
    let one = c.push_pair-one.ensures in
    λ ps e. puts_into a.key a.value a.stack c.requires.cells.2 one.lists one.end ps e c.in_ok-built.ensures
