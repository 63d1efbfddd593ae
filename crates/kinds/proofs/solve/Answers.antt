use Rattle.kinds.proofs.Solves.{match_room}
use Rattle.kinds.proofs.solve.Goals as goal

pub matcher-requires-clause-room : goal.matcher-requires-clause-room
matcher-requires-clause-room c = match_room c.requires.room
