use lib.Dec.{eqb}
use mathlib.Core.Bool.{not}
use Rattle.std.proofs.Common.{rules}
use Rattle.std.proofs.lemmas.Iterator.{YieldsList-from_slice, YieldsList-from_map}
use Rattle.std.proofs.lemmas.Iterator.Consumers.{YieldsList-at, YieldsList-from_filter}
use Rattle.steps.proofs.FirstTwo.{two_taken, left, words, left_words}
use Rattle.steps.proofs.rest.first_two.Goals as goal

pub returns : goal.returns
returns c =
    let a = c.args.area.now in
    let ws = words a c.args.at c.args.end in
    left_words a c.args.at c.args.end c.next-first.result c.next.result c.requires.cells (
    two_taken _ _ _ (left ws) c.next-first.result c.next.result c.next-first.ensures.steps c.next.ensures.steps
    (YieldsList-from_map _ (λ w. w)
    (YieldsList-at c.map-left.ensures.source (YieldsList-from_filter _ (λ w. not (eqb w 0)) (YieldsList-at c.filter.ensures.source (YieldsList-from_slice ws c.iter.ensures.rest)) c.filter.ensures.closure (λ x b q k. search rules)))
    c.map-left.ensures.closure (λ x r q k. search rules))
    )
