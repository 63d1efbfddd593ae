-- The members of a sheet as one list of trees, the last first. Definitions only.
use Rattle.std.specs.Prelude.{ℕ, ◌≡◌, List, [], ◌∷◌, map, reverse}
use Rattle.std.specs.Prelude.{Some}
use Rattle.rules.specs.Bytes.{Text}
use Rattle.rules.specs.Maybe.{every}
use Rattle.rules.specs.Tree.{Tree, apply, Trees, none, more}
use Rattle.rules.specs.Sheet.{Member}
use Rattle.rules.specs.Variants.{Variant, read_member}
use Rattle.tree.specs.Cells.{trees_at}
use Rattle.tree.specs.Names.{fixed_text}
use Rattle.tree.specs.declared.fixed.Fixed.TheVariants.{Pair as pair_name}
use Rattle.substitution.specs.Bindings.{bindings_of, Chain}
use Rattle.forms.specs.Members.{members_at}
use Rattle.variants.specs.Members.{Alike}

-- a member as one tree: a fixed name over the member's own tree and then its keys and values in turn
abbrev pub member_tree : Tree → Trees → Tree
member_tree t bindings = apply (fixed_text pair_name) (more t bindings)

-- t stands for the member that reads as v: the same tree, and bindings that give every variable the same value
pub record StandsFor (t : Tree) (v : Variant) : Type 0 where
  pub bindings : Trees
  pub is : t ≡ member_tree v.0 bindings
  pub chain : Chain bindings
  pub alike : Alike (bindings_of bindings) v.1

-- the trees stand for the members, one for one
pub data Family : Trees → List Variant → Type 0 where
  nil : Family none []
  next : {t : Tree} {ts : Trees} {v : Variant} {vs : List Variant} → StandsFor t v → Family ts vs → Family (more t ts) (v ∷ vs)

-- all of the members ms read; the list from cell i on stands for them, the last first
pub record ReadAll (s : Text) (v : List ℕ) (i : ℕ) (ms : List Member) : Type 0 where
  pub vs : List Variant
  pub read : every (map read_member ms) ≡ Some (reverse vs)
  pub family : Family (trees_at s v i) vs

-- members stand from a position on, to the end of the sheet
pub record MembersThere (s : Text) (at : ℕ) : Type 0 where
  pub ms : List Member
  pub are : members_at s at ≡ Some ms
