use mathlib.Core.Path.{sym, ap, ◌∙◌}
use Rattle.rules.specs.Text.{is_one_of}
use Rattle.tree.specs.Areas.{name_in, trees_in}
use Rattle.variables.specs.Pairing.{names_of}
use Rattle.substitution.specs.Areas.{bindings_in}
use Rattle.values.proofs.ValueLaws.{looked_some, looked_none, valued_other, valued_bound, valued_unread, valued_read}
use Rattle.values.proofs.values.read_value.Goals as goal

pub returns-in_default : goal.returns-in_default
returns-in_default c =
    let a = c.args.area.now in
    let ns = names_of (trees_in a c.args.names) in
    valued_other a ns c.args.entry.left c.args.entry.right c.args.list c.requires.link (ap (is_one_of ns) (sym c.text-key.ensures) ∙ c.in_default.ensures)

pub returns-then-is_some : goal.returns-then-is_some
returns-then-is_some c =
    let a = c.args.area.now in
    let f = looked_some a (bindings_in a c.args.list) (name_in a c.in-Some.x) c.lookup.result (sym c.if-is_some.ensures) c.lookup.ensures in
    valued_bound a (names_of (trees_in a c.args.names)) c.args.entry.left c.args.entry.right c.args.list c.requires.link (rw c.text-key.ensures at c.in-Some.ensures) f.1

pub returns-in_err-value : goal.returns-in_err-value
returns-in_err-value c =
    let a = c.args.area.now in
    let f = looked_none a (bindings_in a c.args.list) (name_in a c.in-Some.x) c.lookup.result (sym c.if-is_some.ensures) c.lookup.ensures in
    rw c.from_residual.ensures
    (valued_unread a (names_of (trees_in a c.args.names)) c.args.entry.left c.args.entry.right c.args.list c.requires.link (rw c.text-key.ensures at c.in-Some.ensures) f c.in_err-value.ensures)

pub returns : goal.returns
returns c =
    let a = c.args.area.now in
    let f = looked_none a (bindings_in a c.args.list) (name_in a c.in-Some.x) c.lookup.result (sym c.if-is_some.ensures) c.lookup.ensures in
    valued_read a (names_of (trees_in a c.args.names)) c.args.entry.left c.args.entry.right c.args.list c.requires.link (rw c.text-key.ensures at c.in-Some.ensures) c.in_ok-value.ensures f c.push_pair.ensures.lists c.push_pair.ensures.end
