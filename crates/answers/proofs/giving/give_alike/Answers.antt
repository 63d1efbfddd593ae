use Rattle.answers.proofs.Told.{told_held, told_alike}
use Rattle.answers.proofs.giving.give_alike.Goals as goal

pub give-requires : goal.give-requires
give-requires c = told_held c.args.area.now c.args.decision c.requires

pub returns : goal.returns
returns c = λ a. rw (told_alike a c.args.area.now c.args.decision c.requires) c.give.ensures
