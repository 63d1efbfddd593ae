-- The members as lists of trees in cells, and the pairs by which each generalizes. Definitions only.
use Rattle.std.specs.Prelude.{ℕ, ◌≡◌, List, [], ◌∷◌, ◌++◌, map}
use Rattle.rules.specs.Bytes.{Text}
use Rattle.rules.specs.Tree.{Tree, variable, atom, apply, Trees, none, more}
use Rattle.rules.specs.Substitution.{Binding, Pair, lookup}
use Rattle.rules.specs.Variants.{Variant}
use Rattle.substitution.specs.Bindings.{bindings_of}
use Rattle.unifier.specs.Matched.{Matched}
use Rattle.families.specs.Families.{member_tree}

-- the member that a tree stands for: its own tree, and its keys and values
unfoldable pub member_of : Tree → Variant
unfolding bindings_of
member_of (variable x) = (variable x, [])
member_of (atom c d) = (atom c d, [])
member_of (apply f none) = (apply f none, [])
member_of (apply f (more t ts)) = (t, bindings_of ts)

unfoldable pub variants_of : Trees → List Variant
unfolding member_of
variants_of none = []
variants_of (more t ts) = member_of t ∷ variants_of ts

-- a member's tree at each variable against that of the bindings, and its own against a value
unfoldable pub member_pairs : List Text → Variant → List Binding → Tree → List Pair
unfolding lookup
member_pairs xs m bs value = map (λ x. (lookup m.1 x, lookup bs x)) xs ++ ((m.0, value) ∷ [])

-- the tree of a member
pub record IsMember (t : Tree) : Type 0 where
  pub own : Tree
  pub entries : Trees
  pub is : t ≡ member_tree own entries

-- each tree of the list is a member's, and its pairs can be matched after n cells
abbrev pub AllMatched : Text → List ℕ → ℕ → List Text → List Binding → Tree → Trees → Type 0
AllMatched s w n xs bs value none = Unit {0}
AllMatched s w n xs bs value (more t ts) = IsMember t × Matched s w n (member_pairs xs (member_of t) bs value) × AllMatched s w n xs bs value ts
