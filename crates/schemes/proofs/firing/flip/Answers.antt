use Rattle.tree.specs.Names.{fixed_text}
use Rattle.schemes.proofs.Equating.{fired_roles}
use Rattle.schemes.proofs.firing.flip.Goals as goal

pub returns : goal.returns
returns c =
    let k = c.requires.cells in
    λ es e. fired_roles (fixed_text c.args.other) (fixed_text c.args.role) c.args.below.equations c.args.below.values c.args.below.left.next k.0.0 k.0.1 k.1 e c.push_fixed-value.ensures c.push_fixed-pattern.ensures c.push_pair-equations.ensures.lists c.push_pair-equations.ensures.end
