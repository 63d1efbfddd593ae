use native.Mathlib.Omega.{arith}
use mathlib.Core.Path.{subst, ◌∙◌}
use Rattle.rules.specs.Bytes.{Text}
use Rattle.fresh.specs.Searching.{FindsText}
use Rattle.fresh.proofs.FreshCells.{width_within, fresh_length, fresh_some, printed_front}
use Rattle.fresh.proofs.searching.find_fresh.Goals as goal

pub part-requires : goal.part-requires
part-requires c = (omega arith, omega (arith, fresh_length c.args.n, width_within c.args.n (omega arith), c.print_fresh-end.ensures.end))

pub find_text-requires : goal.find_text-requires
find_text-requires c = rw (c.part.ensures ∙ printed_front c.print_fresh-end.ensures) (fresh_some c.args.n)

pub returns : goal.returns
returns c = subst (λ (x : Text). FindsText c.args.sheet.now x c.find_text.result) (c.part.ensures ∙ printed_front c.print_fresh-end.ensures) c.find_text.ensures
