use mathlib.Core.Path.{◌≡◌, sym, ◌∙◌}
use native.Mathlib.Omega.{arith}
use Rattle.tree.specs.Cells.{kind_of}
use Rattle.tree.proofs.Children.{children_first, children_leaf}
use Rattle.tree.proofs.cells.child_of.Goals as goal

pub returns-in-0 : goal.returns-in-0
returns-in-0 c =
    let a = c.args in
    let e = sym c.kind_of.ensures ∙ c.in-0.is in
    let f = c.first_of.ensures in
    (f.1, (λ s. children_first s a.work.now a.k e f.0), (λ p. (e, f.0)), (λ z g. sym f.0 ∙ z))

pub returns-in_default : goal.returns-in_default
returns-in_default c =
    let a = c.args in
    let h : kind_of a.work.now a.k ≡ 0 → ⊥ = λ e. omega (arith, e, c.kind_of.ensures) in
    (c.requires.k_nonzero.0, (λ s. children_leaf s a.work.now a.k h), (λ p. absurd (omega arith)), (λ z g. absurd (h g)))
