-- Trees in a work area of words. Cell k has the four words from 4 * k: the place of its name; its kind and its count of nodes; its
-- first child's cell and its next sibling's cell, 0 for none. A place is a start and a length in the sheet, or, with the length 0, the
-- code of a fixed name: 1 to 6 for the names that reduction and schemes make, from 7 on for those that no sheet spells. The kind is 0 for an
-- application, 1 to 6 for a variable by its sort, else the letter of an atom, whose place is that of its digits. Two numbers in a word:
-- the first times 65,536, and the second. Definitions only.
use Rattle.std.specs.Prelude.{ℕ, zero, suc, ◌+◌, ◌-◌, ◌*◌, ◌/◌, ◌%◌, cond, List, [], ◌∷◌, eqb, ltb, get_or, take, drop}
use Rattle.std.specs.Prelude.{Option, Some, None}
use Rattle.rules.specs.Bytes.{Text}
use Rattle.rules.specs.Text.{bytes}
use Rattle.rules.specs.Tree.{Tree, variable, atom, apply, Trees, none, more}
use Rattle.rules.specs.declared.Sort.{Sort}
use Rattle.rules.specs.Sorts.{sort_number, variable_sort}
use Rattle.laws.specs.Unspelled.{unspelled}

unfoldable pub start_of : List ℕ → ℕ → ℕ
start_of w k = get_or w (4 * k) 0 / 65536

unfoldable pub length_of : List ℕ → ℕ → ℕ
length_of w k = get_or w (4 * k) 0 % 65536

unfoldable pub kind_of : List ℕ → ℕ → ℕ
kind_of w k = get_or w (4 * k + 1) 0 / 65536

unfoldable pub nodes_of : List ℕ → ℕ → ℕ
nodes_of w k = get_or w (4 * k + 1) 0 % 65536

abbrev pub first_of : List ℕ → ℕ → ℕ
first_of w k = get_or w (4 * k + 2) 0

abbrev pub next_of : List ℕ → ℕ → ℕ
next_of w k = get_or w (4 * k + 3) 0

-- the names that reduction and schemes make, by their codes from 1 on
abbrev pub fixed_names : List Text
fixed_names = bytes "tamXCroleA" ∷ bytes "tamXCroleB" ∷ bytes "tamXCpair" ∷ bytes "tamXCsenc" ∷ bytes "tamXCkem" ∷ bytes "tamXCpk" ∷ []

-- the name of a code
abbrev pub fixed_name : ℕ → Text
fixed_name zero = []
fixed_name (suc c) = get_or fixed_names c (unspelled (c - 6))

abbrev pub part : Text → ℕ → ℕ → Text
part s a n = take n (drop a s)

-- the name at a place
unfoldable pub named : Text → ℕ → ℕ → Text
named s a n = cond (eqb n 0) (fixed_name a) (part s a n)

-- the name of cell k
unfoldable pub name_at : Text → List ℕ → ℕ → Text
name_at s w k = named s (start_of w k) (length_of w k)

-- the kind of a variable, by its sort
abbrev pub kind_of_sort : Option Sort → ℕ
kind_of_sort None = 6
kind_of_sort (Some a) = 1 + sort_number a

abbrev pub variable_kind : Text → ℕ
variable_kind n = kind_of_sort (variable_sort n)

-- the tree of a kind, a name and children
unfoldable pub made : ℕ → Text → Trees → Tree
made k n ts = cond (eqb k 0) (apply n ts) (cond (ltb k 7) (variable n) (atom k n))

-- the trees of cell k and its later siblings, by links followed f deep
unfoldable pub forest : ℕ → Text → List ℕ → ℕ → Trees
forest zero s w k = none
forest (suc f) s w zero = none
forest (suc f) s w (suc j) = more (made (kind_of w (suc j)) (name_at s w (suc j)) (forest f s w (first_of w (suc j)))) (forest f s w (next_of w (suc j)))

-- the trees of cell k and its later siblings; the links fall, so k is deep enough
unfoldable pub trees_at : Text → List ℕ → ℕ → Trees
trees_at s w k = forest k s w k

-- the tree of cell k
unfoldable pub tree_at : Text → List ℕ → ℕ → Tree
tree_at s w k = made (kind_of w k) (name_at s w k) (trees_at s w (first_of w k))
