use Rattle.schemes.proofs.Leaves.{list_puts}
use Rattle.schemes.proofs.patterns.over.Goals as goal

pub returns-clause-puts : goal.returns-clause-puts
returns-clause-puts c = list_puts c.push_over.ensures.lists
