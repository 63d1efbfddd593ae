-- One step at the root.
use mathlib.Core.Path.{◌≡◌}
use Rattle.std.specs.Prelude.{Option, Some, None}
use Rattle.rules.specs.Bytes.{Text}
use Rattle.rules.specs.Maybe.{otherwise}
use Rattle.rules.specs.Tree.{Tree, apply, Trees}
use Rattle.rules.specs.declared.Rule.{Rule}
use Rattle.rules.specs.Reduction.{rule_named, fire, root}

-- the root by its rule
pub root_by : (f : Text) (ts : Trees) (r : Rule) (o : Option Tree) → rule_named f ≡ Some r → fire r ts ≡ o → root f ts ≡ otherwise o (apply f ts)
unfolding root
root_by f ts r o e g = rw (e, g)

pub root_none : (f : Text) (ts : Trees) → rule_named f ≡ None → root f ts ≡ apply f ts
unfolding root
root_none f ts e = rw e
