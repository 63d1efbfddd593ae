use Rattle.closing.proofs.Numbers.{alone_is, atom_closes_not, atom_shut}
use Rattle.closing.proofs.atom.Goals as goal

pub returns-then-not-is_number : goal.returns-then-not-is_number
returns-then-not-is_number c = atom_closes_not c.args.area.now c.args.chain _ c.args.next (alone_is c.args.area.now c.args.chain c.if-not-is_number.true c.is_number.ensures)

pub returns : goal.returns
returns c = atom_shut c.args.area.now c.args.chain (alone_is c.args.area.now c.args.chain c.if-not-is_number.false c.is_number.ensures) c.push_atom.ensures
