use Rattle.steps.proofs.Settling.{one_swapped}
use Rattle.steps.proofs.rest.rest_of_several.Goals as goal

pub returns-in_ok-left-in-Every-Some-None : goal.returns-in_ok-left-in-Every-Some-None
returns-in_ok-left-in-Every-Some-None c =
    let k = c.in_ok-left-in-Every-Some-None in
    one_swapped k.left c.in-Every-Some-None.right c.in-Every-Some-None.is-0 (rw k.ensures.ok_part at c.rebuild.ensures) (rw (c.in-Every-Some-None.is-1, c.in-Every-Some-None.is-2) at c.first_two-first.ensures)
