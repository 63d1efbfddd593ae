use Rattle.std.proofs.Common.{rules}
use native.Mathlib.Omega.{arith}
use mathlib.Core.Path.{◌≡◌, refl, sym, ◌∙◌}
use mathlib.Core.Bool.{true, false}
use mathlib.Core.Logic.{⊎_elim}
use Prim.Native.Nat.{◌<◌}
use Rattle.tree.specs.Cells.{kind_of}
use Rattle.tree.proofs.ByKind.{number_application}
use Rattle.tree.proofs.Comparing.{kinds_apart, both_variables, both_atoms, applications, lists, none_first, none_second}
use Rattle.tree.proofs.Walks.{first_falls, rest_falls, children_fall}
use Rattle.tree.proofs.area.Area.+same_tree_same_trees.Goals as goal

pub same_tree-returns-then-ne : goal.same_tree-returns-then-ne
same_tree-returns-then-ne t c =
    let i = c.requires.i_cell in
    let j = c.requires.j_cell in
    kinds_apart c.args.self.now c.args.i c.args.j i.0 i.1 j.0 j.1 (λ e. (let k : c.kind-kind.result ≡ c.kind.result = c.kind-kind.ensures ∙ e ∙ sym c.kind.ensures in search rules))

pub same_tree-same_trees-requires : goal.same_tree-same_trees-requires
same_tree-same_trees-requires t c =
    let f = c.first_of.ensures in
    (children_fall c.args.self.now c.args.i f.first c.decreases (sym c.kind-kind.ensures ∙ c.in-Application.is), (omega (arith, f.below, c.requires.i_cell.1), omega (arith, c.first_of-then-same_name.ensures.below, c.requires.j_cell.1)))

pub same_tree-returns-then-same_name : goal.same_tree-returns-then-same_name
same_tree-returns-then-same_name t c =
    let a = c.args.self.now in
    let k : c.kind.result ≡ c.kind-kind.result = search rules in
    applications a.sheet.now a.work.now c.args.i c.args.j _ _ true c.same_trees.result (number_application (kind_of a.work.now c.args.i) (sym c.kind-kind.ensures ∙ c.in-Application.is)) (number_application (kind_of a.work.now c.args.j) (sym c.kind.ensures ∙ k ∙ c.in-Application.is)) c.first_of.ensures.first c.first_of-then-same_name.ensures.first (sym c.if-same_name.true ∙ c.same_name.ensures) c.same_trees.ensures

pub same_tree-returns-else-same_name : goal.same_tree-returns-else-same_name
same_tree-returns-else-same_name t c =
    let a = c.args.self.now in
    let k : c.kind.result ≡ c.kind-kind.result = search rules in
    c.if-same_name.false
    ∙ applications a.sheet.now a.work.now c.args.i c.args.j _ _ false _ (number_application (kind_of a.work.now c.args.i) (sym c.kind-kind.ensures ∙ c.in-Application.is)) (number_application (kind_of a.work.now c.args.j) (sym c.kind.ensures ∙ k ∙ c.in-Application.is)) refl refl (sym c.if-same_name.false ∙ c.same_name.ensures) refl

pub same_tree-returns-in-Variable : goal.same_tree-returns-in-Variable
same_tree-returns-in-Variable t c =
    let a = c.args.self.now in
    let k : c.kind.result ≡ c.kind-kind.result = search rules in
    c.same_name-in-Variable.ensures
    ∙ ⊎_elim (λ e. both_variables a c.args.i c.args.j e.0 (sym c.kind-kind.ensures ∙ e.1) (sym c.kind.ensures ∙ k ∙ e.1)) (λ e. both_atoms a c.args.i c.args.j e.0 (sym c.kind-kind.ensures ∙ e.1) (sym c.kind.ensures ∙ k ∙ e.1)) c.in-Variable.is

pub same_trees-returns-then-i-eq0 : goal.same_trees-returns-then-i-eq0
same_trees-returns-then-i-eq0 t c =
    let a = c.args.self.now in
    none_first a.sheet.now a.work.now c.args.i c.args.j a.free a.arena.links c.if-i-eq0.true c.requires.1

pub same_trees-returns-then-j-eq0 : goal.same_trees-returns-then-j-eq0
same_trees-returns-then-j-eq0 t c =
    let a = c.args.self.now in
    none_second a.sheet.now a.work.now c.args.i c.args.j a.free a.arena.links (omega arith) c.requires.0 c.if-j-eq0.true

pub same_trees-same_tree-requires : goal.same_trees-same_tree-requires
same_trees-same_tree-requires t c =
    let p : 0 < c.args.i = omega arith in
    (first_falls c.args.self.now c.args.i c.decreases p c.requires.0, ((p, c.requires.0), (omega arith, c.requires.1)))

pub same_trees-same_trees-requires : goal.same_trees-same_trees-requires
same_trees-same_trees-requires t c =
    let f = c.next_of.ensures in
    (rest_falls c.args.self.now c.args.i f.next c.decreases (omega arith) c.requires.0, (omega (arith, f.below, c.requires.0), omega (arith, c.next_of-then-same_tree.ensures.below, c.requires.1)))

pub same_trees-returns-then-same_tree : goal.same_trees-returns-then-same_tree
same_trees-returns-then-same_tree t c =
    let a = c.args.self.now in
    lists a.sheet.now a.work.now c.args.i c.args.j a.free _ _ true c.same_trees.result a.arena.links (omega arith) c.requires.0 (omega arith) c.requires.1 c.next_of.ensures.next c.next_of-then-same_tree.ensures.next (sym c.if-same_tree.true ∙ c.same_tree.ensures) c.same_trees.ensures

pub same_trees-returns-else-same_tree : goal.same_trees-returns-else-same_tree
same_trees-returns-else-same_tree t c =
    let a = c.args.self.now in
    c.if-same_tree.false
    ∙ lists a.sheet.now a.work.now c.args.i c.args.j a.free _ _ false _ a.arena.links (omega arith) c.requires.0 (omega arith) c.requires.1 refl refl (sym c.if-same_tree.false ∙ c.same_tree.ensures) refl
