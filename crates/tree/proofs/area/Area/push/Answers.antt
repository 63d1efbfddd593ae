use mathlib.Core.Path.{refl}
use native.Mathlib.Omega.{arith}
use Rattle.tree.proofs.Fitting.{fits_linked}
use Rattle.tree.proofs.area.Area.push.Goals as goal

pub invariant_of-self : goal.invariant_of-self
invariant_of-self c = record { arena = rw c.push_cell-self.ensures.0 (fits_linked c.requires.fits c.number.ensures.number c.number.ensures.small (omega (arith, c.requires.room.0)) c.push_cell-self.ensures.1).arena }

pub returns : goal.returns
returns c = record {
  lent = record { work = refl; sheet = refl };
  cell = refl;
  end = c.push_cell-self.ensures.0;
  linked = fits_linked c.requires.fits c.number.ensures.number c.number.ensures.small (omega (arith, c.requires.room.0)) c.push_cell-self.ensures.1;
}
