use Rattle.std.proofs.Common.{rules, ap, ◌∙◌}
use Prim.Native.Nat.{◌^◌}
use native.Mathlib.Omega.{arith}
use Rattle.std.proofs.lemmas.Iterator.{YieldsList-from_map}
use Rattle.std.proofs.lemmas.Iterator.Consumers.{sum_by_from_yields_List, fits_by_from_yields_list}
use Rattle.tree.specs.Areas.{count_in}
use Rattle.tree.specs.Lists.{cells_from, cells_left}
use Rattle.tree.proofs.Chains.{cells_counted}
use Rattle.tree.proofs.Walks.{cells_yielded, every_asked}
use Rattle.tree.proofs.area.Area.nodes_in.Goals as goal

pub sum-requires-clause-can : goal.sum-requires-clause-can
sum-requires-clause-can c =
    (tt, every_asked c.args.self.now c.args.list c.requires.0 (ap cells_left c.map.ensures.source ∙ c.list.ensures) (λ x q h. search rules) (λ x p l. search rules))

pub sum-requires-clause-fits : goal.sum-requires-clause-fits
sum-requires-clause-fits c =
    let a = c.args.self.now in
    fits_by_from_yields_list (count_in a) (cells_from a c.args.list) c.map.result (2 ^ 64) (YieldsList-from_map _ (count_in a) (cells_yielded a c.args.list (ap cells_left c.map.ensures.source ∙ c.list.ensures)) c.map.ensures.closure (λ x r q k. search rules)) (omega (arith, c.requires, cells_counted a c.args.list c.requires.0))

pub returns : goal.returns
returns c =
    let a = c.args.self.now in
    sum_by_from_yields_List (count_in a) (cells_from a c.args.list) c.map.result c.sum.result c.sum.ensures.ran (YieldsList-from_map _ (count_in a) (cells_yielded a c.args.list (ap cells_left c.map.ensures.source ∙ c.list.ensures)) c.map.ensures.closure (λ x r q k. search rules))
    ∙ cells_counted a c.args.list c.requires.0
