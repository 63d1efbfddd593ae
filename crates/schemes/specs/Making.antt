-- What the functions that make schemes at the free end of an area answer. Definitions only.
use Rattle.std.specs.Prelude.{ℕ, ◌+◌, ◌*◌, ◌/◌, ◌%◌, ◌<◌, ◌≤◌, ◌^◌, ◌≡◌, List, ◌⊎◌, Some, length}
use Rattle.rules.specs.Bytes.{Text}
use Rattle.rules.specs.Tree.{Tree, Trees, more, children, count, size, sizes}
use Rattle.rules.specs.Substitution.{Pair, flatten}
use Rattle.rules.specs.declared.Rule.{Rule}
use Rattle.rules.specs.Reduction.{rule_named}
use Rattle.rules.specs.Variants.{Scheme, scheme_counts}
use Rattle.laws.specs.Schemes.{root_at, joined_at}
use Rattle.laws.specs.Memory.{site, sites_in}
use Rattle.tree.specs.declared.area.Area.{Area}
use Rattle.tree.specs.Areas.{tree_in, trees_in, Grows, Adds}
use Rattle.tree.specs.Lists.{Lists}
use Rattle.substitution.specs.Areas.{PairsIn}
use Rattle.schemes.specs.Choices.{over, appended, ways_of, root_of, Shared, joined_as}
use Rattle.schemes.specs.Areas.{Has, HasList, FreshIn, SomeFreshIn}
use Rattle.schemes.specs.declared.firing.Fired.{Fired}
use Rattle.schemes.specs.declared.firing.Draw.{Draw}
use Rattle.schemes.specs.declared.firing.Chosen.{Chosen}

-- which of c choices a draw makes
abbrev pub choice_of : Draw → ℕ → ℕ
choice_of d c = d.index / (d.ways / c)

-- cell k is a tree of one node
pub record LeafIn (a : Area) (k : ℕ) : Type 0 where
  pub some_cell : 0 < k
  pub inside : k < a.free
  pub node : size (tree_in a k) ≡ 1

-- b is a with the scheme x of a rule that fires, its equations left, right, left, right
pub record FiredIn (a b : Area) (x : Scheme) (r : Fired) : Type 0 where
  pub adds : Adds a b
  pub used : b.free ≤ a.free + 10
  pub value : Has b r.value x.value
  pub equations : HasList b r.equations (flatten x.equations)
  pub next : r.next ≡ x.next

-- that scheme is the root's, by any text that names the rule and any names of the fresh variables: a choice after those of the children
abbrev pub FiresIn : Area → Area → Rule → ℕ → ℕ → Chosen → Fired → Type 0
FiresIn a b rule choice fresh below r =
    (f : Text) → rule_named f ≡ Some rule → (name : ℕ → Text) → FreshIn a fresh name → (es : List Pair) → trees_in a below.equations ≡ flatten es
    → FiredIn a b (root_at name f (joined_as (trees_in a below.values) es below.left.next) choice) r

-- the choices for the list from cell i on can be made: its trees are small, the index is below the ways, and names and cells suffice
pub record ReadyIn (a : Area) (fresh : ℕ) (d : Draw) (i : ℕ) : Type 0 where
  pub named : SomeFreshIn a fresh
  pub inside : i < a.free
  pub small : sizes (trees_in a i) ≤ 4096
  pub shared : Shared (scheme_counts (trees_in a i)) d.ways d.index
  pub names : d.next + 2 * sites_in (trees_in a i) ≤ 24
  pub room : 4 * (a.free + 2 * sizes (trees_in a i) + 64 * sites_in (trees_in a i) + 64) ≤ length a.work.now
  pub bits : a.free + 2 * sizes (trees_in a i) + 64 * sites_in (trees_in a i) + 64 < 2 ^ 32

-- the choice at the root of cell i can be made, after those of its children
pub record RootReadyIn (a : Area) (fresh : ℕ) (below : Chosen) (i : ℕ) : Type 0 where
  pub named : SomeFreshIn a fresh
  pub some_cell : 0 < i
  pub inside : i < a.free
  pub values : below.values < a.free
  pub equations : below.equations < a.free
  pub pairs : PairsIn a below.equations
  pub small : sizes (trees_in a below.values) ≤ 4096
  pub shared : Shared (ways_of (over (tree_in a i) (trees_in a below.values))) below.left.ways below.left.index
  pub names : below.left.next + 2 * site (ways_of (over (tree_in a i) (trees_in a below.values))) ≤ 24
  pub room : 4 * (a.free + 10) ≤ length a.work.now
  pub bits : a.free + 10 < 2 ^ 32

-- the choice at the root of t after those of its children, whose equations are es: its value and equations, and what is left of the
-- draw; no cells but one where it stays
pub record ChosenRootIn (a b : Area) (name : ℕ → Text) (below : Chosen) (t : Tree) (es : List Pair) (r : Chosen) : Type 0 where
  pub grows : Grows a b
  pub used : b.free ≤ a.free + 10
  pub value : Has b r.values (root_of name t (joined_as (children t) es below.left.next) (choice_of below.left (ways_of t))).value
  pub equations : HasList b r.equations (flatten (root_of name t (joined_as (children t) es below.left.next) (choice_of below.left (ways_of t))).equations)
  pub next : r.left.next ≡ (root_of name t (joined_as (children t) es below.left.next) (choice_of below.left (ways_of t))).next
  pub ways : r.left.ways ≡ below.left.ways / ways_of t
  pub index : r.left.index ≡ below.left.index % (below.left.ways / ways_of t)
  pub cells : ((b.free ≤ a.free + 1) × (r.equations ≡ below.equations)) ⊎ (1 < ways_of t)

-- the list from cell x on before the list from cell y on; nothing is copied where one of them is empty
pub record AppendsIn (a b : Area) (x y i : ℕ) : Type 0 where
  pub lists : Lists a b i (appended (trees_in a x) (trees_in a y))
  pub used : b.free ≤ a.free + count (trees_in a x)
  pub first_none : x ≡ 0 → (b.free ≡ a.free) × (i ≡ y)
  pub second_none : y ≡ 0 → (b.free ≡ a.free) × (i ≡ x)

-- a value with its equations before the choices for later trees
pub record FollowsIn (a b : Area) (value equations : ℕ) (rest r : Chosen) : Type 0 where
  pub adds : Adds a b
  pub used : b.free ≤ a.free + (1 + count (trees_in a equations))
  pub values : HasList b r.values (more (tree_in a value) (trees_in a rest.values))
  pub list : HasList b r.equations (appended (trees_in a equations) (trees_in a rest.equations))
  pub left : r.left ≡ rest.left
  pub first_none : equations ≡ 0 → (b.free ≤ a.free + 1) × (r.equations ≡ rest.equations)
  pub second_none : rest.equations ≡ 0 → (b.free ≤ a.free + 1) × (r.equations ≡ equations)

-- The choices for the trees ts by the draw d, as `joined_at` has them; what is left of the draw is for later trees. A list with
-- equations leaves 48 cells unused: they are for copying its equations before those of a later list, of which there are at most 24.
pub record ChoosesIn (a b : Area) (name : ℕ → Text) (d : Draw) (ts : Trees) (r : Chosen) : Type 0 where
  pub grows : Grows a b
  pub used : b.free ≤ a.free + (2 * sizes ts + 64 * sites_in ts)
  pub spare : (r.equations ≡ 0) ⊎ (b.free + 48 ≤ a.free + 2 * sizes ts + 64 * sites_in ts)
  pub values : HasList b r.values (joined_at name ts d.next (choice_of d (scheme_counts ts))).values
  pub equations : HasList b r.equations (flatten (joined_at name ts d.next (choice_of d (scheme_counts ts))).equations)
  pub next : r.left.next ≡ (joined_at name ts d.next (choice_of d (scheme_counts ts))).next
  pub ways : r.left.ways ≡ d.ways / scheme_counts ts
  pub index : r.left.index ≡ d.index % (d.ways / scheme_counts ts)
