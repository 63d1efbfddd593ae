use mathlib.Core.Path.{sym, ap, ◌∙◌}
use Rattle.rules.specs.Bytes.{Text, same}
use Rattle.text.proofs.Library.{same_is}
use Rattle.tree.specs.declared.names.Name.{Name}
use Rattle.tree.specs.Names.{name_text}
use Rattle.tree.proofs.names.Name.is.Goals as goal

pub returns-in-Spelled : goal.returns-in-Spelled
returns-in-Spelled c =
    let t = c.args.text.now in
    c.eq.ensures ∙ same_is c.in-Spelled.name.now t ∙ ap (λ (x : Name). same (name_text x) t) (sym c.in-Spelled.is)

pub returns-in-Fixed : goal.returns-in-Fixed
returns-in-Fixed c =
    let t = c.args.text.now in
    c.eq-in-Fixed.ensures ∙ same_is c.text.result.now t ∙ ap (λ (x : Text). same x t) c.text.ensures ∙ ap (λ (x : Name). same (name_text x) t) (sym c.in-Fixed.is)
