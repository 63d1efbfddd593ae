use native.Mathlib.Omega.{arith}
use Rattle.fresh.proofs.FreshCells.{width_within, fresh_printed}
use Rattle.fresh.proofs.searching.print_fresh.Goals as goal

pub print-end-requires : goal.print-end-requires
print-end-requires c = omega (arith, width_within c.args.n (omega arith))

pub print_text-requires : goal.print_text-requires
print_text-requires c = omega (arith, width_within c.args.n (omega arith))

pub returns : goal.returns
returns c = fresh_printed c.args.n (omega arith) c.requires c.print_text-first.ensures c.print-end.ensures c.print_text.ensures
