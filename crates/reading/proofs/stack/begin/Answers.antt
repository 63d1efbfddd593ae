use mathlib.Core.Path.{refl}
use Rattle.reading.proofs.Stacks.{opened}
use Rattle.reading.proofs.StacksIn.{held_of, placed_of}
use Rattle.reading.proofs.stack.begin.Goals as goal

pub invariant_of-area : goal.invariant_of-area
invariant_of-area c = record { arena = (opened (held_of c.args.area.now c.requires.held) c.requires.room (placed_of c.requires.name)).held.arena }

pub returns : goal.returns
returns c = record {
  lent = record { work = refl; sheet = refl };
  end = refl;
  opened = opened (held_of c.args.area.now c.requires.held) c.requires.room (placed_of c.requires.name);
}
