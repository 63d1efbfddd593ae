use mathlib.Core.Path.{refl, sym, ap, ◌∙◌}
use native.Mathlib.Omega.{arith}
use Rattle.tree.specs.Areas.{tree_in}
use Rattle.tree.specs.Lists.{cells_left}
use Rattle.tree.proofs.Decoding.{size_pos}
use Rattle.tree.proofs.ByKind.{nodes_application}
use Rattle.variables.proofs.Collecting.{collect_variable, collect_atom, children_readable, collect_children, collecting_starts, cells_collected, cell_inside, cell_room, cell_turn}
use Rattle.variables.proofs.gathering.+gather_gather_list.Goals as goal

pub gather-gather_list-requires : goal.gather-gather_list-requires
gather-gather_list-requires t c =
    let a = c.args.area.now in
    let e = sym c.kind.ensures ∙ c.in-Application.is in
    let f = c.first_of.ensures in (
      omega (arith, c.decreases, f.below),
      ((omega (arith, f.below, c.requires.cell.0.1), children_readable a c.args.i c.first_of.result e f.first c.requires.cell.1), omega (arith, c.requires.room, nodes_application a c.args.i e f.first)),
    )

pub gather-push-requires : goal.gather-push-requires
gather-push-requires t c = omega (arith, c.requires.room, size_pos (tree_in c.args.area.now c.args.i))

pub gather-returns-in-Application : goal.gather-returns-in-Application
gather-returns-in-Application t c = collect_children c.args.area.now c.args.i c.first_of.result (sym c.kind.ensures ∙ c.in-Application.is) c.first_of.ensures.first c.gather_list.ensures

pub gather-returns-in-Variable : goal.gather-returns-in-Variable
gather-returns-in-Variable t c =
    let i = c.requires.cell in
    collect_variable c.args.area.now c.args.i c.in-Variable.field-0 (sym c.kind.ensures ∙ c.in-Variable.is) i.0.0 i.0.1 i.1 refl c.push.ensures

pub gather-returns-in-Atom : goal.gather-returns-in-Atom
gather-returns-in-Atom t c = collect_atom c.args.area.now c.args.i c.in-Atom.field-0 c.args.out.now (sym c.kind.ensures ∙ c.in-Atom.is)

pub gather_list-loop-i-init : goal.gather_list-loop-i-init
gather_list-loop-i-init t c = record {
  lent = refl;
  cells = record {
    cell = c.args.list;
    cells = ap cells_left c.into_iter-i-iterator.ensures.into_iter_gives ∙ c.list-i-items.ensures;
    before = collecting_starts c.args.area.now c.args.out.now.words.now c.args.list c.args.out.now.end c.requires.list.0 c.requires.list.1;
  };
}

pub gather_list-gather-requires : goal.gather_list-gather-requires
gather_list-gather-requires t c =
    let r = cell_room c.loop-i.invariant.cells c.in-Some.ensures.steps in
    (omega (arith, c.decreases, r.0), (cell_inside c.loop-i.invariant.cells c.in-Some.ensures.steps, omega (arith, r.1, r.2, c.requires.room)))

pub gather_list-loop-i-preserved : goal.gather_list-loop-i-preserved
gather_list-loop-i-preserved t c = record {
  lent = c.gather.ensures.lent ∙ c.loop-i.invariant.lent;
  cells = cell_turn c.loop-i.invariant.cells c.in-Some.ensures.steps c.requires.room c.gather.ensures.named;
}

pub gather_list-returns : goal.gather_list-returns
gather_list-returns t c = record { lent = c.loop-i.invariant.lent; named = cells_collected c.loop-i.invariant.cells c.in-None.ensures.steps.0 }
