-- Lists of variables: their names, and how many cells they take.
use Prim.Native.Nat.{ℕ, suc, ◌+◌}
use mathlib.Core.Path.{◌≡◌, refl, sym, ap, subst}
use mathlib.Core.List.{List, [], ◌∷◌, map}
use lib.ListN.{length}
use native.Mathlib.Omega.{arith}
use Rattle.rules.specs.Bytes.{Text}
use Rattle.rules.specs.Tree.{count}
use Rattle.tree.specs.Cells.{trees_at}
use Rattle.tree.specs.declared.area.Area.{Area}
use Rattle.tree.specs.Areas.{Grows}
use Rattle.tree.proofs.Keeping.{grows_trees}
use Rattle.substitution.specs.Bindings.{key_of}
use Rattle.variables.specs.Listing.{variable_list, backwards}
use Rattle.variables.specs.Pairing.{names_of, names_at, OfVariables}
use Rattle.variables.specs.Areas.{VariablesIn, SolutionIn}
use Rattle.variables.specs.declared.pairing.Solution.{Solution}

pub names_list : (xs : List Text) → names_of (variable_list xs) ≡ xs
unfolding names_of variable_list key_of
names_list [] = refl
names_list (x ∷ xs) = ap (λ (l : List Text). x ∷ l) (names_list xs)

pub variables_list : (xs : List Text) → OfVariables (variable_list xs)
variables_list xs = ap variable_list (names_list xs)

pub length_map : (f : ℕ → Text) (xs : List ℕ) → length (map f xs) ≡ length xs
length_map f [] = refl
length_map f (x ∷ xs) = ap suc (length_map f xs)

length_backwards : (xs l : List Text) → length (backwards xs l) ≡ length xs + length l
unfolding backwards
length_backwards [] l = omega arith
length_backwards (x ∷ xs) l = let h = length_backwards xs (x ∷ l) in omega arith

count_list : (xs : List Text) → count (variable_list xs) ≡ length xs
unfolding variable_list
count_list [] = refl
count_list (x ∷ xs) = ap suc (count_list xs)

-- the cells of a list of variables are as many as its names
pub names_count : (s : Text) (w : List ℕ) (k : ℕ) → OfVariables (trees_at s w k) → count (trees_at s w k) ≡ length (names_at s w k)
names_count s w k o =
    let l : length (names_at s w k) ≡ length (names_of (trees_at s w k)) + 0 = length_backwards (names_of (trees_at s w k)) [] in
    let c = ap count o in
    let d = count_list (names_of (trees_at s w k)) in
    omega arith

-- a list of variables stays one
pub variables_grown : {a b : Area} {k : ℕ} → Grows a b → VariablesIn a k → VariablesIn b k
variables_grown {k = k} g h = record { inside = omega (arith, h.inside, g.grew); variables = subst OfVariables (sym (grows_trees g k h.inside)) h.variables }

pub solution_grown : {a b : Area} {s : Solution} → Grows a b → SolutionIn a s → SolutionIn b s
solution_grown g h = record { names = variables_grown g h.names; bindings = omega (arith, h.bindings, g.grew) }
