use mathlib.Core.Path.{sym, ◌∙◌}
use mathlib.Core.Logic.{⊎_elim}
use Rattle.tree.proofs.ByKind.{sort_variable, sort_application, sort_atom}
use Rattle.tree.proofs.area.Area.sort_of.Goals as goal

pub returns-in-Variable : goal.returns-in-Variable
returns-in-Variable c =
    let v = c.in-Variable in
    sort_variable c.args.self.now c.args.k v.sort c.requires.0 c.requires.1 (sym c.kind.ensures ∙ v.is)

pub returns-in-Application : goal.returns-in-Application
returns-in-Application c =
    let a = c.args.self.now in
    ⊎_elim (λ e. sort_application a c.args.k (sym c.kind.ensures ∙ e)) (λ e. sort_atom a c.args.k e.0 (sym c.kind.ensures ∙ e.1)) c.in-Application.is
