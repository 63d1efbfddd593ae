-- Trees that are one are equivalent.
use mathlib.Core.Path.{◌≡◌, sym, ap, ◌∙◌}
use mathlib.Core.Bool.{true}
use Rattle.rules.specs.Tree.{Tree, same_tree}
use Rattle.rules.specs.Sums.{canonical, equivalent}
use Rattle.laws.proofs.Basics.Tests.{same_self, tree_eq}

pub equivalent_self : (t : Tree) → true ≡ equivalent t t
unfolding equivalent
equivalent_self t = sym (same_self (canonical t))

pub equivalent_one : {t u : Tree} → t ≡ u → true ≡ equivalent t u
equivalent_one {t} e = equivalent_self t ∙ ap (equivalent t) e

pub equivalent_same : (t u : Tree) → true ≡ same_tree t u → true ≡ equivalent t u
equivalent_same t u e = equivalent_one (tree_eq t u (sym e))
