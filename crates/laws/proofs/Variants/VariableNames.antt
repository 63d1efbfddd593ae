-- The variables that cover and complete go through are at most as many as the names of the trees.
use Prim.Native.Nat.{suc, ◌+◌, ◌≤◌}
use native.Mathlib.Omega.{arith}
use mathlib.Core.Bool.{Bool, true, false}
use mathlib.Core.List.{List, [], ◌∷◌, ◌++◌}
use lib.ListN.{length, length-append}
use Rattle.rules.specs.Bytes.{Text, same, upto}
use Rattle.rules.specs.Tree.{Tree, variable, atom, apply, Trees, none, more, variable_names, variable_names_in}
use Rattle.rules.specs.Substitution.{Pair}
use Rattle.rules.specs.Cover.{insert_once, variables, variables_in, variables_of}
use Rattle.laws.specs.Memory.{variable_names_of_pairs}

insert_length : (x : Text) (xs : List Text) → length (insert_once x xs) ≤ suc (length xs)
unfolding insert_once
insert_length x [] = omega arith
insert_length x (y ∷ ys) = go (same x y) (upto x y) (insert_length x ys)
  where
    go : (b c : Bool) → length (insert_once x ys) ≤ suc (length ys)
        → length {A = Text} (elim b [ true ↦ y ∷ ys | false ↦ elim c [ true ↦ x ∷ y ∷ ys | false ↦ y ∷ insert_once x ys ] ]) ≤ suc (suc (length ys))
    go true c k = omega arith
    go false true k = omega arith
    go false false k = omega arith

mutual
  unfolding variables variable_names

  pub variables_length : (t : Tree) (found : List Text) → length (variables t found) ≤ length (variable_names t) + length found
  variables_length (variable x) found = omega (arith, insert_length x found)
  variables_length (atom c d) found = omega arith
  variables_length (apply f ts) found = variables_in_length ts found

  variables_in_length : (ts : Trees) (found : List Text) → length (variables_in ts found) ≤ length (variable_names_in ts) + length found
  variables_in_length none found = omega arith
  variables_in_length (more t ts) found =
      omega (arith, variables_in_length ts (variables t found), variables_length t found, length-append (variable_names t) (variable_names_in ts))

pub variables_of_length : (ps : List Pair) → length (variables_of ps) ≤ length (variable_names_of_pairs ps)
unfolding variables_of variable_names_of_pairs
variables_of_length [] = omega arith
variables_of_length (p ∷ ps) =
    omega (
      arith,
      variables_of_length ps,
      variables_length p.1 (variables_of ps),
      variables_length p.0 (variables p.1 (variables_of ps)),
      length-append (variable_names p.0) (variable_names p.1 ++ variable_names_of_pairs ps),
      length-append (variable_names p.1) (variable_names_of_pairs ps),
    )
