use native.Mathlib.Omega.{arith}
use mathlib.Core.Path.{refl}
use Rattle.tree.proofs.Keeping.{adds_same}
use Rattle.closing.proofs.Orders.{list_sizes}
use Rattle.closing.proofs.in_order.Goals as goal

pub nodes_in-nodes-requires : goal.nodes_in-nodes-requires
nodes_in-nodes-requires c = (c.requires.chain, omega (arith, list_sizes c.args.area.now c.args.chain c.requires.chain, c.requires.room.1))

pub returns-then-nodes-gt4095 : goal.returns-then-nodes-gt4095
returns-then-nodes-gt4095 c = (omega (arith, c.nodes_in-nodes.ensures), adds_same c.args.area.now, refl)

pub returns : goal.returns
returns c =
    let h = c.reversed-first.ensures in
    record {
      adds = h.lists.adds;
      used = omega (arith, h.end);
      inside = h.lists.inside;
      trees = h.lists.trees;
      counted = c.nodes_in-nodes.ensures;
      small = omega arith;
    }
