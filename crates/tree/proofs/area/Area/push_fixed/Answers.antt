use mathlib.Core.Path.{ap, ◌∙◌}
use native.Mathlib.Omega.{arith}
use Prim.Native.Nat.{ℕ}
use Rattle.rules.specs.Tree.{apply}
use Rattle.tree.specs.Areas.{trees_in}
use Rattle.tree.specs.Cells.{fixed_name}
use Rattle.tree.proofs.FixedNames.{fixed_plain}
use Rattle.tree.proofs.Fitting.{word_code, apply_fits, apply_tree, pushes_as}
use Rattle.tree.proofs.area.Area.push_fixed.Goals as goal

pub push-requires-clause-fits : goal.push-requires-clause-fits
push-requires-clause-fits c =
    let x = c.code.ensures in
    apply_fits (word_code c.args.self.now.sheet.now c.code.result x.few.0 (omega (arith, x.few.1))) (fixed_plain c.code.result) c.requires.links.0 c.requires.links.1 c.requires.count.0 c.requires.count.1

pub returns : goal.returns
returns c =
    let x = c.code.ensures in
    let a = c.args.self.now in
    pushes_as (apply_tree (word_code a.sheet.now c.code.result x.few.0 (omega (arith, x.few.1))) (trees_in a c.args.first) ∙ ap (λ (i : ℕ). apply (fixed_name i) (trees_in a c.args.first)) x.code) c.push.ensures
