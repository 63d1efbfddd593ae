use mathlib.Core.Path.{refl, sym, ◌∙◌}
use native.Mathlib.Omega.{arith}
use Rattle.rules.specs.Tree.{size, sizes}
use Rattle.tree.specs.Areas.{tree_in, trees_in}
use Rattle.tree.proofs.Decoding.{size_pos}
use Rattle.tree.proofs.Lists.{list_none, list_more, list_size}
use Rattle.equivalence.proofs.TreeWords.{leaf_written, atom_written, branch, branch_size, branch_sum, list_room, close_room, node_written, one_written, more_written, rest_some}
use Rattle.equivalence.proofs.words.+put_list_put_term.Goals as goal

pub put_term-put_atom-requires : goal.put_term-put_atom-requires
put_term-put_atom-requires t c = omega (arith, c.requires.room, size_pos (tree_in c.args.area.now c.args.i))

pub put_term-returns-in-Atom : goal.put_term-returns-in-Atom
put_term-returns-in-Atom t c =
    let a = c.args in
    let w = c.word_of-word.ensures in
    atom_written a.area.now a.i w.0 w.1 c.requires.cell.0 c.requires.cell.1 (sym c.kind.ensures ∙ c.in-Atom.is) c.put_atom.ensures

pub put_term-push-requires : goal.put_term-push-requires
put_term-push-requires t c = omega (arith, c.requires.room, size_pos (tree_in c.args.area.now c.args.i))

pub put_term-returns-then-first-eq0 : goal.put_term-returns-then-first-eq0
put_term-returns-then-first-eq0 t c =
    let a = c.args in
    let w = c.word_of-word.ensures in
    leaf_written a.area.now a.i w.0 w.1 c.if-first-eq0.true c.child_of-first.ensures.children (λ l e. c.in_default.not-Atom l (c.kind.ensures ∙ e)) c.push.ensures

pub put_term-open-requires : goal.put_term-open-requires
put_term-open-requires t c = omega (arith, c.requires.room, size_pos (tree_in c.args.area.now c.args.i))

pub put_term-put_list-requires : goal.put_term-put_list-requires
put_term-put_list-requires t c =
    let a = c.args in
    let j = c.child_of-first in
    let m = branch_size a.area.now a.i (omega (arith, c.if-first-eq0.false)) (omega (arith, j.ensures.below, c.requires.cell)) j.ensures.children in
    let k = sizes (trees_in a.area.now j.result) in
    (omega (arith, c.decreases, m), ((omega (arith, c.if-first-eq0.false), omega (arith, j.ensures.below, c.requires.cell)), list_room c.within-bracket.result c.word_of-word.result (size (tree_in a.area.now a.i)) k c.open.ensures c.requires.room m))

pub put_term-close-requires : goal.put_term-close-requires
put_term-close-requires t c =
    let a = c.args in
    let j = c.child_of-first in
    let m = branch_size a.area.now a.i (omega (arith, c.if-first-eq0.false)) (omega (arith, j.ensures.below, c.requires.cell)) j.ensures.children in
    let k = sizes (trees_in a.area.now j.result) in
    close_room c.within-bracket.result c.word_of-word.result (size (tree_in a.area.now a.i)) k c.open.ensures c.requires.room m refl c.put_list.ensures

pub put_term-returns : goal.put_term-returns
put_term-returns t c =
    let a = c.args in
    let j = c.child_of-first in
    let m = branch_size a.area.now a.i (omega (arith, c.if-first-eq0.false)) (omega (arith, j.ensures.below, c.requires.cell)) j.ensures.children in
    let k = sizes (trees_in a.area.now j.result) in
    let w = c.word_of-word.ensures in
    let e = branch_sum a.area.now a.i (omega (arith, c.if-first-eq0.false)) (omega (arith, j.ensures.below, c.requires.cell)) j.ensures.children in
    rw (branch a.area.now a.i (omega (arith, c.if-first-eq0.false)) (omega (arith, j.ensures.below, c.requires.cell)) j.ensures.children)
    (node_written c.within-bracket.result c.word_of-word.result (size (tree_in a.area.now a.i)) k c.open.ensures c.requires.room m a.outer refl w.0 w.1 (c.is_sum.ensures ∙ e) c.put_list.ensures c.within-bracket.ensures c.close.ensures)

pub put_list-put_term-requires : goal.put_list-put_term-requires
put_list-put_term-requires t c =
    let a = c.args in
    let m = list_size a.area.now a.i c.requires.cell.0 c.requires.cell.1 refl in
    (omega (arith, c.decreases, m), (c.requires.cell, omega (arith, c.requires.room, m)))

pub put_list-returns-then-next-eq0 : goal.put_list-returns-then-next-eq0
put_list-returns-then-next-eq0 t c =
    let a = c.args in
    rw (list_more a.area.now a.i c.requires.cell.0 c.requires.cell.1 c.next_of-next.ensures.next, list_none a.area.now c.next_of-next.result c.if-next-eq0.true) (one_written c.put_term.ensures)

pub put_list-push-requires : goal.put_list-push-requires
put_list-push-requires t c =
    let a = c.args in
    let g = c.put_term.ensures in
    let m = rest_some a.area.now a.i c.requires.cell.0 c.requires.cell.1 c.next_of-next.ensures.next (omega (arith, c.if-next-eq0.false)) in
    omega (arith, g.words.end, g.short, g.words.wrote.outside.len, c.requires.room, m)

pub put_list-put_list-requires : goal.put_list-put_list-requires
put_list-put_list-requires t c =
    let a = c.args in
    let g = c.put_term.ensures in
    let m = rest_some a.area.now a.i c.requires.cell.0 c.requires.cell.1 c.next_of-next.ensures.next (omega (arith, c.if-next-eq0.false)) in
    let h = c.push.ensures in
    (omega (arith, c.decreases, m), ((omega (arith, c.if-next-eq0.false), omega (arith, c.next_of-next.ensures.below, c.requires.cell)), omega (arith, g.words.end, g.short, g.words.wrote.outside.len, c.requires.room, m, h.end, h.wrote.outside.len)))

pub put_list-returns : goal.put_list-returns
put_list-returns t c =
    let a = c.args in
    let e = list_more a.area.now a.i c.requires.cell.0 c.requires.cell.1 c.next_of-next.ensures.next in
    rw e (more_written c.put_term.ensures c.push.ensures c.put_list.ensures (rw e at c.requires.room))
