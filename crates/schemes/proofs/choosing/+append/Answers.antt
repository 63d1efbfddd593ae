use native.Mathlib.Omega.{arith}
use Rattle.schemes.proofs.Lining.{appends_more}
use Rattle.schemes.proofs.choosing.+append.Goals as goal

pub returns : goal.returns
returns t c =
    appends_more c.args.area.now c.args.x c.args.y c.next_of-later.result (omega (arith, c.if-x-eq0.false)) c.requires.lists.0 (omega (arith, c.if-y-eq0.false)) c.next_of-later.ensures.next c.append-rest.ensures c.share.ensures
