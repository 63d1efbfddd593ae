use mathlib.Core.Path.{sym}
use Rattle.elimination.proofs.Eliminating.{binds_put}
use Rattle.elimination.proofs.bind.Goals as goal

pub returns : goal.returns
returns c =
    let f = c.args.front in
    let i = c.requires.front in
    binds_put f.left f.right i.0.0 i.0.1 i.1.0 i.1.1 c.requires.key (rw c.in_ok-stack.ensures.ok_part at c.bind_into.ensures _ (sym i.3))
