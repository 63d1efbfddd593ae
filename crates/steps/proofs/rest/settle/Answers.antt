use Rattle.steps.proofs.Settling.{one_paired}
use Rattle.steps.proofs.rest.settle.Goals as goal

pub returns-in_ok-right-in-Some-None : goal.returns-in_ok-right-in-Some-None
returns-in_ok-right-in-Some-None c =
    let k = c.in_ok-right-in-Some-None in
    let o = c.in-Some-None in
    one_paired c.args.cancelling o.left k.right (rw (o.is-0, o.is-1) at c.first_two.ensures) (rw k.ensures.ok_part at c.rebuild.ensures)

pub returns-in-Some-Some : goal.returns-in-Some-Some
returns-in-Some-Some c = c.rest_of_several.ensures
