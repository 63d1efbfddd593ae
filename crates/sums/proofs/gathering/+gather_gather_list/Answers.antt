use native.Mathlib.Omega.{arith}
use mathlib.Core.Path.{refl, sym, ap, ◌∙◌}
use Rattle.tree.specs.Areas.{tree_in}
use Rattle.tree.specs.Lists.{cells_left}
use Rattle.tree.proofs.Decoding.{size_pos}
use Rattle.sums.proofs.Collecting.{gathers_leaf, gathers_sum, sum_size, gathering_starts, gathering_room, cells_gathered, gathering_cell, gathering_turn}
use Rattle.sums.proofs.gathering.+gather_gather_list.Goals as goal

pub gather-gather_list-requires : goal.gather-gather_list-requires
gather-gather_list-requires t c =
    let a = c.args in
    let f = c.first_of.ensures in
    (omega (arith, c.decreases, f.below), ((omega (arith, f.below, c.requires.cell.0.1), c.requires.cell.1), omega (arith, c.requires.room, sum_size a.area.now a.i f.first (sym c.if-is_sum.true ∙ c.is_sum.ensures))))

pub gather-returns-then-is_sum : goal.gather-returns-then-is_sum
gather-returns-then-is_sum t c = gathers_sum c.args.i c.first_of.ensures.first (sym c.if-is_sum.true ∙ c.is_sum.ensures) c.gather_list.ensures

pub gather-push-requires : goal.gather-push-requires
gather-push-requires t c = omega (arith, c.requires.room, size_pos (tree_in c.args.area.now c.args.i))

pub gather-returns-else-is_sum : goal.gather-returns-else-is_sum
gather-returns-else-is_sum t c =
    let a = c.args in
    gathers_leaf a.i c.requires.cell.0.0 c.requires.cell.0.1 (sym c.if-is_sum.false ∙ c.is_sum.ensures) c.push.ensures

pub gather_list-loop-i-init : goal.gather_list-loop-i-init
gather_list-loop-i-init t c = record {
  lent = refl;
  cell = c.args.list;
  cells = ap cells_left c.into_iter-i-iterator.ensures.into_iter_gives ∙ c.list-i-items.ensures;
  inside = c.requires.link.0;
  before = gathering_starts c.args.area.now c.args.out.now.words.now c.args.out.now.end c.args.list;
}

pub gather_list-gather-requires : goal.gather_list-gather-requires
gather_list-gather-requires t c =
    let n = gathering_cell c.loop-i.invariant c.in-Some.ensures.steps in
    (omega (arith, c.decreases, n.2.falls), ((n.0, c.requires.link.1), gathering_room n.2 n.0.0 n.0.1 c.requires.room))

pub gather_list-loop-i-preserved : goal.gather_list-loop-i-preserved
gather_list-loop-i-preserved t c = gathering_turn c.loop-i.invariant c.in-Some.ensures.steps c.requires.room c.gather.ensures

pub gather_list-returns : goal.gather_list-returns
gather_list-returns t c = cells_gathered c.loop-i.invariant c.in-None.ensures.steps.0
