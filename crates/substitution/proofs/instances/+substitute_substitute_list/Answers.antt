use native.Mathlib.Omega.{arith}
use mathlib.Core.Path.{◌≡◌, refl, sym, ◌∙◌}
use Prim.Native.Nat.{◌<◌}
use Rattle.tree.specs.declared.kinds.Kind.TheVariants.{Application}
use Rattle.tree.specs.Areas.{cell_kind, next_in, name_in}
use Rattle.tree.proofs.ByKind.{tree_a_variable}
use Rattle.tree.proofs.Keeping.{adds_grows}
use Rattle.substitution.specs.Areas.{instance_in, instances_in}
use Rattle.substitution.proofs.Listing.{puts_push, kind_later, over_same, over_new, over_tree, over_list, listed_none, places_over, builds_more, over_apply, over_more}
use Rattle.substitution.proofs.Instantiating.{instance_application, instance_atom, instance_variable, instances_none, instances_more, instance_later}
use Rattle.substitution.proofs.instances.+substitute_substitute_list.Goals as goal

pub substitute-returns-in_err-left-in-Application : goal.substitute-returns-in_err-left-in-Application
substitute-returns-in_err-left-in-Application t c =
    let a = c.args.area.now in
    let e = c.in_err-left-in-Application.ensures in
    rw c.from_residual.ensures (over_tree a (instance_in a c.args.b c.args.i) (omega arith))

pub substitute-returns-in_err-children-in-Application : goal.substitute-returns-in_err-children-in-Application
substitute-returns-in_err-children-in-Application t c =
    let a = c.args.area.now in
    let e = c.in_ok-left-in-Application.ensures in
    rw (c.from_residual-in_err-children-in-Application.ensures, instance_application a c.args.b c.args.i c.first_of-first.result c.first_of-first.ensures.first (sym c.kind.ensures ∙ c.in-Application.is))
    (over_apply (name_in a c.args.i) _ (omega arith) c.in_err-children-in-Application.ensures)

pub substitute-push_like-index-requires-clause-k_cell : goal.substitute-push_like-index-requires-clause-k_cell
substitute-push_like-index-requires-clause-k_cell t c =
    let h = c.in_ok-children-in-Application.ensures in
    let i = c.requires.cells in
    ((i.0.0, omega (arith, i.0.1, h.lists.adds.grew)), kind_later h.lists c.args.i i.0.0 i.0.1 (sym c.kind.ensures ∙ c.in-Application.is))

pub substitute-returns-then-children-first : goal.substitute-returns-then-children-first
substitute-returns-then-children-first t c =
    let a = c.args.area.now in
    let i = c.requires.cells in
    let e = c.in_ok-left-in-Application.ensures in
    let h = c.in_ok-children-in-Application.ensures in
    let k : cell_kind a c.args.i ≡ Application = sym c.kind.ensures ∙ c.in-Application.is in
    let f = c.first_of-first.ensures.first in
    rw (instance_application a c.args.b c.args.i c.first_of-first.result f k)
    (places_over h (omega arith) (name_in a c.args.i) i.2 c.keep-index.ensures.puts c.keep-index.ensures.end (over_same h.lists c.args.i i.0.0 i.0.1 k (c.if-children-first.true ∙ f)))

pub substitute-returns-else-children-first : goal.substitute-returns-else-children-first
substitute-returns-else-children-first t c =
    let a = c.args.area.now in
    let i = c.requires.cells in
    let e = c.in_ok-left-in-Application.ensures in
    let h = c.in_ok-children-in-Application.ensures in
    let k : cell_kind a c.args.i ≡ Application = sym c.kind.ensures ∙ c.in-Application.is in
    let g = c.push_like-index.ensures in
    rw (instance_application a c.args.b c.args.i c.first_of-first.result c.first_of-first.ensures.first k)
    (places_over h (omega arith) (name_in a c.args.i) i.2 (puts_push g) (omega (arith, g.end)) (over_new h.lists c.args.i i.0.0 i.0.1 k))

pub substitute-image-value-requires-clause-x_cell : goal.substitute-image-value-requires-clause-x_cell
substitute-image-value-requires-clause-x_cell t c =
    (c.requires.cells.0, tree_a_variable c.args.area.now c.args.i _ (sym c.kind.ensures ∙ c.in-Variable.is))

pub substitute-returns-in-Variable : goal.substitute-returns-in-Variable
substitute-returns-in-Variable t c =
    let a = c.args.area.now in
    rw (c.image-value.ensures.value ∙ sym (instance_variable a c.args.b c.args.i _ (sym c.kind.ensures ∙ c.in-Variable.is))) at c.place.ensures

pub substitute-returns-in-Atom : goal.substitute-returns-in-Atom
substitute-returns-in-Atom t c =
    rw (instance_atom c.args.area.now c.args.b c.args.i _ (sym c.kind.ensures ∙ c.in-Atom.is)) at c.place-in-Atom.ensures

pub substitute_list-returns-then-i-eq0 : goal.substitute_list-returns-then-i-eq0
substitute_list-returns-then-i-eq0 t c =
    let a = c.args.area.now in
    rw (instances_none a c.args.b c.args.i c.if-i-eq0.true) (listed_none a c.args.budget)

pub substitute_list-returns-in_err-left : goal.substitute_list-returns-in_err-left
substitute_list-returns-in_err-left t c =
    let a = c.args.area.now in
    let e = c.in_err-left.ensures in
    let n = next_in a c.args.i in
    rw (c.from_residual.ensures, instances_more a c.args.b c.args.i n refl (omega arith) c.requires.links.0)
    (over_list a (instance_in a c.args.b c.args.i) (instances_in a c.args.b n) (omega arith))

pub substitute_list-returns-in_err-rest : goal.substitute_list-returns-in_err-rest
substitute_list-returns-in_err-rest t c =
    let a = c.args.area.now in
    let e = c.in_ok-left.ensures in
    rw (c.from_residual-in_err-rest.ensures, instances_more a c.args.b c.args.i c.next_of-next.result c.next_of-next.ensures.next (omega arith) c.requires.links.0)
    (over_more (instance_in a c.args.b c.args.i) _ (omega arith) c.in_err-rest.ensures)

pub substitute_list-returns : goal.substitute_list-returns
substitute_list-returns t c =
    let a = c.args.area.now in
    let e = c.in_ok-left.ensures in
    let h = c.in_ok-rest.ensures in
    let p : 0 < c.args.i = omega arith in
    rw (instances_more a c.args.b c.args.i c.next_of-next.result c.next_of-next.ensures.next p c.requires.links.0, ← instance_later c.args.b c.args.i (adds_grows h.lists.adds) c.requires.links.1 p c.requires.links.0)
    (builds_more h (omega arith) c.substitute.new.area _ c.substitute.result c.substitute.ensures)
