-- What the functions on bindings in an area answer, and what those that write trees at its free end do. Definitions only.
use Rattle.std.specs.Prelude.{ℕ, ◌+◌, ◌*◌, ◌<◌, ◌≤◌, ◌≡◌, List, reverse, length, Option, Some, None}
use Rattle.rules.specs.Bytes.{Text}
use Rattle.rules.specs.Tree.{Tree, variable, Trees, more, size, sizes}
use Rattle.rules.specs.Substitution.{Binding, Pair, lookup, instantiate, substitutes, size_pairs, flatten}
use Rattle.rules.specs.Matching.{bound}
use Rattle.rules.specs.Inference.{put}
use Rattle.rules.specs.Solving.{bind, unknown, bind_into, compose}
use Rattle.tree.specs.declared.area.Area.{Area}
use Rattle.tree.specs.Arena.{Grown}
use Rattle.tree.specs.Areas.{tree_in, trees_in, Lent, Adds}
pub use Rattle.tree.specs.Lists.{Lists}
use Rattle.substitution.specs.Bindings.{bindings_of, Chain}
use Rattle.substitution.specs.declared.instances.Built.{Built}

-- the bindings from cell b on
abbrev pub bindings_in : Area → ℕ → List Binding
bindings_in a b = bindings_of (trees_in a b)

-- the instance of the tree of cell i, and of the list from it on, under the bindings from cell b on
abbrev pub instance_in : Area → ℕ → ℕ → Tree
instance_in a b i = instantiate (bindings_in a b) (tree_in a i)

abbrev pub instances_in : Area → ℕ → ℕ → Trees
instances_in a b i = substitutes (lookup (bindings_in a b)) (trees_in a i)

-- the first binding of x has the tree of cell k for its value
pub record FoundIn (a : Area) (bs : List Binding) (x : Text) (k : ℕ) : Type 0 where
  pub some_cell : 0 < k
  pub inside : k < a.free
  pub is_bound : bound x bs ≡ Some (tree_in a k)
  pub is_value : lookup bs x ≡ tree_in a k

abbrev pub FindsIn : Area → List Binding → Text → Option ℕ → Type 0
FindsIn a bs x (Some k) = FoundIn a bs x k
FindsIn a bs x None = (bound x bs ≡ None) × (lookup bs x ≡ variable x)

-- b is a with new cells, and the list from cell i on is the tree t before that from cell next on
pub record Puts (a b : Area) (i next : ℕ) (t : Tree) : Type 0 where
  pub adds : Adds a b
  pub some_cell : 0 < i
  pub inside : i < b.free
  pub tree : tree_in b i ≡ t
  pub trees : trees_in b i ≡ more t (trees_in a next)

-- b is a with n new cells at most
pub record WithinArea (a b : Area) (n : ℕ) : Type 0 where
  pub lent : Lent a b
  pub grew : a.free ≤ b.free
  pub used : b.free ≤ a.free + n
  pub grown : Grown a.work.now b.work.now a.free (a.free + n)

-- within a budget of n nodes the tree t is built before the list from cell next on
pub record Places (a b : Area) (n next : ℕ) (t : Tree) (r : Built) : Type 0 where
  pub puts : Puts a b r.index next t
  pub used : b.free + r.budget ≤ a.free + n
  pub spent : r.budget + size t ≡ n

-- or it has more nodes than the budget
abbrev pub BuildsTreeIn : Area → Area → ℕ → ℕ → Tree → Option Built → Type 0
BuildsTreeIn a b n next t (Some r) = Places a b n next t r
BuildsTreeIn a b n next t None = (n < size t) × WithinArea a b n

pub record ListsWithin (a b : Area) (n : ℕ) (ts : Trees) (r : Built) : Type 0 where
  pub lists : Lists a b r.index ts
  pub used : b.free + r.budget ≤ a.free + n
  pub spent : r.budget + sizes ts ≡ n

abbrev pub BuildsListIn : Area → Area → ℕ → Trees → Option Built → Type 0
BuildsListIn a b n ts (Some r) = ListsWithin a b n ts r
BuildsListIn a b n ts None = (n < sizes ts) × WithinArea a b n

-- the list from cell k on is one of pairs: left, right, left, right, ..
pub record PairsIn (a : Area) (k : ℕ) : Type 0 where
  pub pairs : List Pair
  pub list : trees_in a k ≡ flatten pairs

-- the waiting pairs ps after the tree t is put for x are the list from cell i on
pub record PutsInto (a b : Area) (x : Text) (t : Tree) (ps : List Pair) (i : ℕ) : Type 0 where
  pub step : bind_into x t ps ≡ bind x t (put x t ps)
  pub small : size_pairs (put x t ps) ≤ 4096
  pub lists : Lists a b i (flatten (put x t ps))
  pub used : b.free ≤ a.free + 4098

-- or they have too many nodes
abbrev pub BindsInArea : Area → Area → Text → Tree → List Pair → Option ℕ → Type 0
BindsInArea a b x t ps (Some i) = PutsInto a b x t ps i
BindsInArea a b x t ps None = (bind_into x t ps ≡ unknown) × WithinArea a b 4098

-- the bindings es, the last made first, composed in the order in which they were made: the list from cell k on
pub record ComposedIn (a b : Area) (es : List Binding) (k : ℕ) : Type 0 where
  pub composed : compose (reverse es) ≡ Some (bindings_in b k)
  pub chain : Chain (trees_in b k)
  pub adds : Adds a b
  pub inside : k < b.free
  pub used : b.free ≤ a.free + 4097 * length es

-- or a value of too many nodes
abbrev pub ComposesIn : Area → Area → List Binding → Option ℕ → Type 0
ComposesIn a b es (Some k) = ComposedIn a b es k
ComposesIn a b es None = (compose (reverse es) ≡ None) × WithinArea a b (4097 * length es)
