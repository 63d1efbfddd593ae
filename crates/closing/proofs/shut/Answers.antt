use mathlib.Core.Path.{sym, ◌∙◌}
use Rattle.rules.specs.Tree.{none, tamtplus}
use Rattle.tree.specs.Areas.{trees_in}
use Rattle.text.proofs.Library.{same_is}
use Rattle.closing.specs.Machine.{back}
use Rattle.closing.proofs.Shuts.{closes_of, close_atom, close_sum, close_list}
use Rattle.closing.proofs.shut.Goals as goal

pub atom-requires-clause-letter : goal.atom-requires-clause-letter
atom-requires-clause-letter c = (close_atom c.text-text.ensures none (sym c.letter_of.ensures ∙ c.in-Some.is)).0

pub returns-in-Some : goal.returns-in-Some
returns-in-Some c = closes_of _ _ _ _ _ (close_atom c.text-text.ensures (back (trees_in c.args.area.now c.args.chain) none) (sym c.letter_of.ensures ∙ c.in-Some.is)).1 c.atom.ensures

pub sum-requires-clause-name : goal.sum-requires-clause-name
sum-requires-clause-name c = (c.requires.name, (close_sum c.text-text.ensures none (c.eq.ensures ∙ same_is c.text-text.result.now tamtplus) (sym c.letter_of.ensures ∙ c.in_default.is) c.if-eq.true).0)

pub returns-then-eq : goal.returns-then-eq
returns-then-eq c = closes_of _ _ _ _ _ (close_sum c.text-text.ensures (back (trees_in c.args.area.now c.args.chain) none) (c.eq.ensures ∙ same_is c.text-text.result.now tamtplus) (sym c.letter_of.ensures ∙ c.in_default.is) c.if-eq.true).1 c.sum.ensures

pub returns : goal.returns
returns c = closes_of _ _ _ _ _ (close_list c.text-text.ensures (back (trees_in c.args.area.now c.args.chain) none) (c.eq.ensures ∙ same_is c.text-text.result.now tamtplus) (sym c.letter_of.ensures ∙ c.in_default.is) c.if-eq.false) c.list.ensures
