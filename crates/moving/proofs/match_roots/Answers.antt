use Rattle.tree.specs.Areas.{tree_in}
use Rattle.elimination.specs.Areas.{pairs_in}
use Rattle.moving.proofs.MovingInAreas.{onwards_rooted}
use Rattle.moving.proofs.match_roots.Goals as goal

pub returns : goal.returns
returns c =
    let a = c.args.area.now in
    let f = c.args.front in
    let m = c.requires.made in
    onwards_rooted c.args.made m.0 m.1 (tree_in a f.left) (tree_in a f.right) (pairs_in a f.rest) c.in_ok-next.ensures
