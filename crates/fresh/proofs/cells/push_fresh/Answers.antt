use native.Mathlib.Omega.{arith}
use Rattle.fresh.proofs.ChoosingLaws.{chosen_unspelled, chosen_sort, chosen_place, chosen_spelled}
use Rattle.fresh.proofs.cells.push_fresh.Goals as goal

pub returns-in_default : goal.returns-in_default
returns-in_default c = chosen_unspelled c.args.area.now c.args.base c.args.n c.in_default.ensures c.push_unspelled.ensures

pub push_variable-requires-clause-name : goal.push_variable-requires-clause-name
push_variable-requires-clause-name c = chosen_place c.args.area.now c.args.base c.args.n c.in-Some.ensures c.requires.short (omega arith)

pub push_variable-requires-clause-sort : goal.push_variable-requires-clause-sort
push_variable-requires-clause-sort c = chosen_sort c.args.area.now c.args.base c.args.n c.in-Some.ensures

pub returns : goal.returns
returns c = chosen_spelled c.args.area.now c.args.base c.args.n c.in-Some.ensures c.push_variable.ensures
