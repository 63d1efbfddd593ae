use Rattle.cover.proofs.NamingIn.{names_made}
use Rattle.cover.proofs.covered.names_of.Goals as goal

pub returns : goal.returns
returns c = names_made c.variables_of-places.ensures c.requires.few.0 c.requires.room.0 c.requires.stack.1 c.list_variables.ensures
