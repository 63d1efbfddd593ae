use mathlib.Core.Path.{sym, ◌∙◌}
use mathlib.Core.Logic.{⊎_elim}
use native.Mathlib.Omega.{arith}
use Rattle.tree.proofs.ByKind.{children_application, children_variable, children_atom}
use Rattle.tree.proofs.area.Area.child_of.Goals as goal

pub returns-in-Application-clause-children : goal.returns-in-Application-clause-children
returns-in-Application-clause-children c = children_application c.args.self.now c.args.k (sym c.kind.ensures ∙ c.in-Application.is) c.first_of.ensures.first

pub returns-in-Application-clause-first : goal.returns-in-Application-clause-first
returns-in-Application-clause-first c = λ e. c.first_of.ensures.first

pub returns-in-Application-clause-application : goal.returns-in-Application-clause-application
returns-in-Application-clause-application c = λ p. sym c.kind.ensures ∙ c.in-Application.is

pub returns-in-Variable : goal.returns-in-Variable
returns-in-Variable c =
    let a = c.args.self.now in
    record {
      children = ⊎_elim (λ e. children_variable a c.args.k e.0 (sym c.kind.ensures ∙ e.1)) (λ e. children_atom a c.args.k e.0 (sym c.kind.ensures ∙ e.1)) c.in-Variable.is;
      below = c.requires.0;
      first = λ e. ⊎_elim (λ v. (let h = sym e ∙ sym c.kind.ensures ∙ v.1 in absurd cc)) (λ v. (let h = sym e ∙ sym c.kind.ensures ∙ v.1 in absurd cc)) c.in-Variable.is;
      application = λ p. absurd (omega arith);
    }
