-- What the rules make of children in an area. Definitions only.
use Rattle.std.specs.Prelude.{ℕ, ◌≡◌, Option, option_map}
use Rattle.rules.specs.Tree.{Tree}
use Rattle.rules.specs.declared.Rule.TheVariants.{Fst, Snd}
use Rattle.rules.specs.Reduction.{constant, fire}
use Rattle.tree.specs.declared.area.Area.{Area}
use Rattle.tree.specs.declared.fixed.Fixed.{Fixed}
use Rattle.tree.specs.Names.{fixed_text}
use Rattle.tree.specs.Areas.{tree_in, trees_in, CellIn}
use Rattle.rewriting.specs.declared.naming.Two.{Two}
use Rattle.rewriting.specs.declared.firing.Value.{Value}
use Rattle.rewriting.specs.declared.firing.Value.TheVariants as value

-- a fixed name without children
abbrev pub fixed_tree : Fixed → Tree
fixed_tree n = constant (fixed_text n)

-- what the rules of pairs make of the list from cell k on
abbrev pub PartsIn : Area → ℕ → Option Two → Type 0
PartsIn a k parts = (fire Fst (trees_in a k) ≡ option_map (λ two. tree_in a two.first) parts) × (fire Snd (trees_in a k) ≡ option_map (λ two. tree_in a two.second) parts)

abbrev pub value_tree : Area → Value → Tree
value_tree a (value.Cell k) = tree_in a k
value_tree a (value.Name n) = fixed_tree n

abbrev pub ValueIn : Area → Value → Type 0
ValueIn a (value.Cell k) = CellIn a k
ValueIn a (value.Name n) = Unit {0}
