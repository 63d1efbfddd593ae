-- The count of schemes, and the value and the system of a scheme, in an area. Definitions only.
use Rattle.std.specs.Prelude.{ℕ, ◌+◌, ◌*◌, ◌<◌, ◌≤◌, ◌≡◌, cond, leb, Option, Some, None}
use Rattle.rules.specs.Bytes.{Text}
use Rattle.rules.specs.Tree.{Tree, variable, Trees, size}
use Rattle.rules.specs.Substitution.{flatten}
use Rattle.rules.specs.Variants.{system}
use Rattle.laws.specs.Schemes.{scheme_at}
use Rattle.tree.specs.declared.area.Area.{Area}
use Rattle.tree.specs.Areas.{tree_in, trees_in, Grows}
use Rattle.schemes.specs.declared.systems.System.{System}

-- a count, if it is at most 4,096
unfoldable pub counted_in : ℕ → Option ℕ
counted_in n = cond (leb n 4096) (Some n) None

-- cell k is t
pub record Has (a : Area) (k : ℕ) (t : Tree) : Type 0 where
  pub some_cell : 0 < k
  pub inside : k < a.free
  pub tree : tree_in a k ≡ t

-- the list from cell k on is ts
pub record HasList (a : Area) (k : ℕ) (ts : Trees) : Type 0 where
  pub inside : k < a.free
  pub trees : trees_in a k ≡ ts

-- the 24 cells from `fresh` on are the variables of these names
pub record FreshIn (a : Area) (fresh : ℕ) (name : ℕ → Text) : Type 0 where
  pub some_cell : 0 < fresh
  pub inside : fresh + 24 ≤ a.free
  pub trees : (k : ℕ) → k < 24 → tree_in a (fresh + k) ≡ variable (name k)

-- they are variables
pub record SomeFreshIn (a : Area) (fresh : ℕ) : Type 0 where
  pub name : ℕ → Text
  pub cells : FreshIn a fresh name

-- b is a with the value and the system of the i-th scheme of a term
pub record SystemIn (a b : Area) (name : ℕ → Text) (i : ℕ) (term : Tree) (r : System) : Type 0 where
  pub grows : Grows a b
  pub used : b.free ≤ a.free + 2 * size term + 1024
  pub value : Has b r.value (scheme_at name term 0 i).value
  pub stack : HasList b r.stack (flatten (system term (scheme_at name term 0 i)))
