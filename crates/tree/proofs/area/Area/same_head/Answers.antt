use mathlib.Core.Path.{◌≡◌, sym, ap₂, ◌∙◌}
use lib.Dec.{eqb}
use borrow.Author.Tests.{not-true, not-false}
use Rattle.std.proofs.Common.{rules}
use Rattle.std.specs.Option.{option_eq}
use Rattle.tree.specs.Areas.{cell_kind}
use Rattle.tree.specs.Kinds.{letter_of}
use Rattle.tree.proofs.Naming.{letters_apart, letters_alike}
use Rattle.tree.proofs.area.Area.same_head.Goals as goal

pub returns-then-ne : goal.returns-then-ne
returns-then-ne c =
    let i = c.requires.i_cell in
    let j = c.requires.j_cell in
    let l : c.letter-left.result ≡ letter_of (cell_kind c.args.self.now c.args.i) = search rules in
    let r : c.letter-right.result ≡ letter_of (cell_kind c.args.self.now c.args.j) = search rules in
    letters_apart c.args.self.now c.args.i c.args.j i.0 i.1 j.0 j.1 (sym (ap₂ (option_eq eqb) l r) ∙ not-true _ (sym c.if-ne.ensures))

pub returns : goal.returns
returns c =
    let l : c.letter-left.result ≡ letter_of (cell_kind c.args.self.now c.args.i) = search rules in
    let r : c.letter-right.result ≡ letter_of (cell_kind c.args.self.now c.args.j) = search rules in
    c.same_name.ensures ∙ letters_alike c.args.self.now c.args.i c.args.j (sym (ap₂ (option_eq eqb) l r) ∙ not-false _ (sym c.if-ne.ensures))
