-- What is claimed of a member against a term. Definitions only.
use Rattle.std.specs.Prelude.{ℕ, ◌≡◌, Bool, List, [], ◌∷◌}
use Rattle.std.specs.Prelude.{Option, Some}
use Rattle.rules.specs.Bytes.{Text}
use Rattle.rules.specs.Maybe.{◌>>=◌}
use Rattle.rules.specs.Tree.{Tree}
use Rattle.rules.specs.Sums.{equivalent}
use Rattle.rules.specs.Reduction.{normalize}
use Rattle.rules.specs.Substitution.{Binding}
use Rattle.rules.specs.Sheet.{Member}
use Rattle.rules.specs.Variants.{instance_of}
use Rattle.forms.specs.Members.{members_at}

-- the tree t is the reduced instance of a term, up to the order of summands
unfoldable pub reduces_to : List Binding → Tree → Tree → Option Bool
unfolding instance_of normalize equivalent
reduces_to bs term t = instance_of bs term >>= λ i. Some (equivalent (normalize i) t)

-- exactly one member stands at a position
pub record OneMember (s : Text) (at : ℕ) : Type 0 where
  pub member : Member
  pub is : members_at s at ≡ Some (member ∷ [])
