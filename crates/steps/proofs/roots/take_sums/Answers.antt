use native.Mathlib.Omega.{arith}
use Rattle.rules.specs.Tree.{same_tree}
use Rattle.tree.specs.Areas.{tree_in}
use Rattle.sums.specs.Summands.{every_cancels, test_of}
use Rattle.steps.proofs.Rooting.{sums_emptied, pair_room, sums_paired}
use Rattle.steps.proofs.roots.take_sums.Goals as goal

pub push_pair-stack-requires-clause-room : goal.push_pair-stack-requires-clause-room
push_pair-stack-requires-clause-room c =
    let o = c.args.cancelling in
    pair_room (every_cancels o) (test_of o) c.requires.fit c.requires.sums (rw c.in-Some.is at c.in_ok-rest_of.ensures) c.requires.room

pub returns-in-None : goal.returns-in-None
returns-in-None c =
    let i = c.requires.front in
    sums_emptied c.args.front.rest i.2 i.3 (omega arith) (rw c.in-None.is at c.in_ok-rest_of.ensures)

pub returns-in-Some : goal.returns-in-Some
returns-in-Some c =
    let a = c.args.area.now in
    let f = c.args.front in
    let i = c.requires.front in
    let o = c.args.cancelling in
    sums_paired (every_cancels o) (test_of o) c.requires.fit c.requires.sums (rw c.in-Some.is at c.in_ok-rest_of.ensures) f.rest (same_tree (tree_in a f.left) (tree_in a f.right)) i.2 i.3 c.push_pair-stack.ensures.lists c.push_pair-stack.ensures.end
