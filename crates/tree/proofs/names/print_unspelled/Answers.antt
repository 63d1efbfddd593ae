use lib.ListN.{length-set}
use native.Mathlib.Omega.{arith}
use Rattle.laws.proofs.Renaming.Unspelled.{unspelled_length}
use Rattle.tree.proofs.LongNames.{zeros_room, name_put}
use Rattle.tree.proofs.names.print_unspelled.Goals as goal

pub bounds-out-at : goal.bounds-out-at
bounds-out-at c = omega (arith, c.requires, unspelled_length c.args.n)

pub slice_bounds-fill-end : goal.slice_bounds-fill-end
slice_bounds-fill-end c = simp length-set (omega (arith, c.requires, unspelled_length c.args.n))

pub print_text-requires : goal.print_text-requires
print_text-requires c = zeros_room c.args.out.now c.args.at c.args.n c.requires (omega arith) (c.fill.ensures.after (λ y e. e))

pub returns : goal.returns
returns c = name_put c.args.out.now c.args.at c.args.n c.requires (omega arith) (c.fill.ensures.after (λ y e. e)) c.print_text.ensures
