-- At each variable the trees that two lists of bindings give it, as a list of trees in cells. Definitions only.
use Rattle.std.specs.Prelude.{ℕ, ◌≡◌, List, [], ◌∷◌}
use Rattle.rules.specs.Bytes.{Text}
use Rattle.rules.specs.Tree.{Trees, none, more}
use Rattle.rules.specs.Substitution.{Binding, Pair, lookup}
use Rattle.tree.specs.Cells.{trees_at}
use Rattle.substitution.specs.Bindings.{key_of}
use Rattle.variables.specs.Listing.{variable_list, backwards}

-- the names of a list of variables
unfoldable pub names_of : Trees → List Text
unfolding key_of
names_of none = []
names_of (more t ts) = key_of t ∷ names_of ts

-- a list of variables and nothing else
abbrev pub OfVariables : Trees → Type 0
OfVariables ts = variable_list (names_of ts) ≡ ts

-- the variables of the list from cell k on, the last first
abbrev pub names_at : Text → List ℕ → ℕ → List Text
names_at s w k = backwards (names_of (trees_at s w k)) []

-- at each variable the tree that the bindings ms give it against that of the bindings bs
unfoldable pub paired : List Binding → List Binding → List Text → List Pair
unfolding lookup
paired ms bs [] = []
paired ms bs (x ∷ xs) = (lookup ms x, lookup bs x) ∷ paired ms bs xs

-- left, right, left, right, before a list
unfoldable pub flatten_before : List Pair → Trees → Trees
flatten_before [] ts = ts
flatten_before (p ∷ ps) ts = more p.0 (more p.1 (flatten_before ps ts))
