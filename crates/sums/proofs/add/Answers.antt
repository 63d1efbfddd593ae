use native.Mathlib.Omega.{arith}
use Rattle.tree.proofs.Lists.{count_size}
use Rattle.sums.proofs.Summing.{like_kept, two_size, adds_sum}
use Rattle.sums.proofs.add.Goals as goal

pub push_like-requires-clause-k_cell : goal.push_like-requires-clause-k_cell
push_like-requires-clause-k_cell c =
    let l = c.requires.like_cell in
    let q = c.requires.cells in
    like_kept c.args.a l.0.0 l.0.1 l.1 q.1.0 q.1.1 q.2 c.share-first.ensures

pub push_like-requires-clause-count : goal.push_like-requires-clause-count
push_like-requires-clause-count c =
    let a = c.args.area.now in
    let l = c.requires.like_cell in
    let q = c.requires.cells in
    let n = two_size c.args.a l.0.0 l.0.1 l.1 q.1.0 q.1.1 q.2 c.share-first.ensures in
    let x = count_size a c.args.a q.0.0 q.0.1 c.count_of.ensures.count in
    let y = count_size a c.args.b q.1.0 q.1.1 c.count_of-2.ensures.count in
    (omega arith, omega (arith, c.requires.small))

pub returns : goal.returns
returns c =
    let l = c.requires.like_cell in
    let q = c.requires.cells in
    adds_sum c.args.a l.0.0 l.0.1 l.1 q.1.0 q.1.1 q.2 c.share-first.ensures c.push_like.ensures
