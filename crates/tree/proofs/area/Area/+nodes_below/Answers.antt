use native.Mathlib.Omega.{arith}
use mathlib.Core.Path.{sym}
use Rattle.tree.specs.Areas.{tree_in}
use Rattle.tree.proofs.Decoding.{sizes_none, size_pos}
use Rattle.tree.proofs.Lists.{list_size, count_size}
use Rattle.tree.proofs.area.Area.+nodes_below.Goals as goal

pub returns-then-list-eq0 : goal.returns-then-list-eq0
returns-then-list-eq0 t c = sym (sizes_none _ _ _ c.if-list-eq0.true)

pub nodes_below-requires : goal.nodes_below-requires
nodes_below-requires t c =
    let a = c.args.self.now in
    let f = c.next_of.ensures in
    let m = list_size a c.args.list (omega arith) c.requires.list f.next in
    (omega (arith, c.decreases, m, size_pos (tree_in a c.args.list)), (omega (arith, f.below, c.requires.list), omega (arith, c.requires.small, m)))

pub overflow_add-result : goal.overflow_add-result
overflow_add-result t c =
    let a = c.args.self.now in
    let m = list_size a c.args.list (omega arith) c.requires.list c.next_of.ensures.next in
    omega (arith, c.nodes_below.ensures, count_size a c.args.list (omega arith) c.requires.list c.count_of.ensures.count, c.requires.small, m)

pub returns : goal.returns
returns t c =
    let a = c.args.self.now in
    let m = list_size a c.args.list (omega arith) c.requires.list c.next_of.ensures.next in
    omega (arith, c.nodes_below.ensures, count_size a c.args.list (omega arith) c.requires.list c.count_of.ensures.count, m)
