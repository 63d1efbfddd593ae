-- Each variable that is read has a colon of its own in the text, each node a byte, and each application of a rule's function with
-- children a bracket.
use Prim.Native.Nat.{ℕ, zero, suc, ◌+◌, ◌≤◌}
use native.Mathlib.Omega.{arith}
use mathlib.Core.Path.{◌≡◌, refl, ap, subst}
use mathlib.Core.List.{[], ◌∷◌, ◌++◌}
use Rattle.std.specs.Prelude.{Option, Some, None}
use Rattle.laws.proofs.Basics.Somes.{some_injective, none_ne_some}
use mathlib.Core.Bool.{Bool, true, false, cond, true≢false}
use lib.Dec.{eqb}
use lib.ListN.{length, length-append, get_or}
use Rattle.rules.specs.Bytes.{Text, same}
use Rattle.rules.specs.Text.{count_of}
use Rattle.rules.specs.Maybe.{guard}
use Rattle.rules.specs.Names.{digit, all, letter_name}
use Rattle.rules.specs.Tree.{Tree, variable, atom, apply, Trees, none, more, count, size, sizes, tamtplus, variable_names, variable_names_in}
use Rattle.rules.specs.declared.Rule.{Rule}
use Rattle.rules.specs.Reduction.{rule_named}
use Rattle.laws.specs.Memory.{rule_node, rule_nodes, rule_nodes_in}
use Rattle.rules.specs.Reading.{leaf, single, constant_name, atom_of, nested, sum_of, close, parse}
use Rattle.laws.proofs.Basics.Tests.{same_eq}
use Rattle.laws.proofs.Basics.Options.{bound}
use Rattle.laws.proofs.Reading.Measures.{total, Measure, read_measured}

-- What closing makes of a name and its list: an atom, a sum or an application
module _ (P : Text → Trees → Tree → Type 0) (atoms : (n : Text) (ts : Trees) (c : ℕ) (d : Text) → P n ts (atom c d))
    (sums : (n : Text) (t u : Tree) (us : Trees) → n ≡ tamtplus → P n (more t (more u us)) (nested t (more u us)))
    (applications : (n : Text) (ts : Trees) → P n ts (apply n ts)) where
  atom_closed : (n : Text) (ts : Trees) (t : Tree) → atom_of n ts ≡ Some t → P n ts t
  unfolding atom_of
  atom_closed n ts t h =
      let (u, e, h₁) = bound (single ts) _ t h in
      let (d, k, h₂) = bound (constant_name u) _ t h₁ in
      let (x, g, h₃) = bound (guard (all digit d)) (λ _. Some (atom (get_or n 0 0) d)) t h₂ in
      subst (P n ts) (some_injective (atom (get_or n 0 0) d) t h₃) (atoms n ts (get_or n 0 0) d)

  sum_closed : (n : Text) (ts : Trees) (t : Tree) → n ≡ tamtplus → sum_of ts ≡ Some t → P n ts t
  unfolding sum_of
  sum_closed n none t e h = absurd (none_ne_some t h)
  sum_closed n (more a none) t e h = absurd (none_ne_some t h)
  sum_closed n (more a (more b us)) t e h = subst (P n (more a (more b us))) (some_injective (nested a (more b us)) t h) (sums n a b us e)

  pub closed_cases : (n : Text) (ts : Trees) (t : Tree) → close n ts ≡ Some t → P n ts t
  unfolding close
  closed_cases n ts t h = go (letter_name n) (same n tamtplus) refl h
    where
      go : (b c : Bool) → same n tamtplus ≡ c → elim b [ true ↦ atom_of n ts | false ↦ elim c [ true ↦ sum_of ts | false ↦ Some (apply n ts) ] ] ≡ Some t → P n ts t
      go true c e k = atom_closed n ts t k
      go false true e k = sum_closed n ts t (same_eq n tamtplus e) k
      go false false e k = subst (P n ts) (some_injective (apply n ts) t k) (applications n ts)

-- Colons

abbrev names_count : Tree → ℕ
names_count t = length (variable_names t)

abbrev names_counts : Trees → ℕ
names_counts ts = length (variable_names_in ts)

names_more : (t : Tree) (ts : Trees) → names_counts (more t ts) ≡ names_count t + names_counts ts
unfolding variable_names
names_more t ts = length-append (variable_names t) (variable_names_in ts)

nested_names : (t : Tree) (us : Trees) → names_count (nested t us) ≡ names_count t + names_counts us
unfolding nested variable_names
nested_names t none = omega arith
nested_names t (more u us) =
    let h = nested_names u us in
    let k = length-append (variable_names t) (variable_names (nested u us) ++ []) in
    let l = length-append (variable_names (nested u us)) [] in
    let i = names_more u us in
    omega arith

some_number : (k : ℕ) → eqb k 0 ≡ false → 1 ≤ k
some_number zero e = absurd (true≢false e)
some_number (suc k) e = omega arith

leaf_names : (n : Text) → names_count (leaf n) ≤ count_of 58 n
unfolding leaf variable_names
leaf_names n = go (eqb (count_of 58 n) 0) refl
  where
    go : (b : Bool) → eqb (count_of 58 n) 0 ≡ b → names_count (cond b (apply n none) (variable n)) ≤ count_of 58 n
    go true e = omega arith
    go false e = some_number (count_of 58 n) e

abbrev pub colon : ℕ → ℕ
colon b = cond (eqb b 58) 1 0

pub colons_total : (s : Text) → total colon s ≡ count_of 58 s
unfolding total count_of
colons_total [] = refl
colons_total (b ∷ s) = ap (λ (n : ℕ). colon b + n) (colons_total s)

pub colons_upto : (s : Text) → count_of 58 s ≤ length s
unfolding count_of
colons_upto [] = omega arith
colons_upto (b ∷ s) = go (eqb b 58) (colons_upto s)
  where
    go : (x : Bool) → count_of 58 s ≤ length s → cond x 1 0 + count_of 58 s ≤ suc (length s)
    go true h = omega arith
    go false h = omega arith

names_closed : (n : Text) (ts : Trees) (t : Tree) → close n ts ≡ Some t → names_count t ≤ names_counts ts
unfolding variable_names
names_closed = closed_cases (λ n ts t. names_count t ≤ names_counts ts) (λ n ts c d. omega arith)
    (λ n t u us e. omega (arith, nested_names t (more u us), names_more t (more u us))) (λ n ts. omega arith)

unfoldable colon_measure : Measure
unfolding variable_names count_of
colon_measure = record {
  byte = colon;
  token = count_of 58;
  delimiter = 0;
  tree = names_count;
  trees = names_counts;
  token_bytes = λ b n. omega (arith, colons_total (b ∷ n));
  comma_token = omega arith;
  bracket_token = omega arith;
  leaf_token = leaf_names;
  no_trees = refl;
  more_trees = λ t ts. omega (arith, names_more t ts);
  closed = λ n ts t h. omega (arith, names_closed n ts t h);
}

-- each variable of the tree has a colon of its own
pub parse_colons : (s : Text) (t : Tree) → parse s ≡ Some t → length (variable_names t) ≤ count_of 58 s
unfolding colon_measure
parse_colons s t h = omega (arith, read_measured colon_measure s t h, colons_total s)

-- Nodes

nested_size : (t : Tree) (us : Trees) → size (nested t us) ≡ size t + sizes us + count us
unfolding nested size
nested_size t none = omega arith
nested_size t (more u us) = let h = nested_size u us in omega arith

pub leaf_size : (n : Text) → size (leaf n) ≡ 1
unfolding leaf size
leaf_size n = go (eqb (count_of 58 n) 0)
  where
    go : (b : Bool) → size (cond b (apply n none) (variable n)) ≡ 1
    go true = refl
    go false = refl

pub bytes_total : (s : Text) → total (λ b. 1) s ≡ length s
unfolding total
bytes_total [] = refl
bytes_total (b ∷ s) = let h = bytes_total s in omega arith

size_closed : (n : Text) (ts : Trees) (t : Tree) → close n ts ≡ Some t → size t ≤ 1 + (sizes ts + count ts)
unfolding size
size_closed = closed_cases (λ n ts t. size t ≤ 1 + (sizes ts + count ts)) (λ n ts c d. omega arith) (λ n t u us e. omega (arith, nested_size t (more u us)))
    (λ n ts. omega arith)

unfoldable node_measure : Measure
unfolding size total
node_measure = record {
  byte = λ b. 1;
  token = λ n. 1;
  delimiter = 1;
  tree = size;
  trees = λ ts. sizes ts + count ts;
  token_bytes = λ b n. omega arith;
  comma_token = omega arith;
  bracket_token = omega arith;
  leaf_token = λ n. omega (arith, leaf_size n);
  no_trees = refl;
  more_trees = λ t ts. omega arith;
  closed = λ n ts t h. omega (arith, size_closed n ts t h);
}

-- each node of the tree has a byte of its own
pub parse_size : (s : Text) (t : Tree) → parse s ≡ Some t → size t ≤ length s
unfolding node_measure
parse_size s t h = omega (arith, read_measured node_measure s t h, bytes_total s)

-- Brackets

nested_rules : (t : Tree) (us : Trees) → rule_nodes (nested t us) ≡ rule_nodes t + rule_nodes_in us
unfolding nested rule_nodes rule_named
nested_rules t none = omega arith
nested_rules t (more u us) = let h = nested_rules u us in omega arith

leaf_rules : (n : Text) → rule_nodes (leaf n) ≡ 0
unfolding leaf rule_nodes
leaf_rules n = go (eqb (count_of 58 n) 0)
  where
    at : (o : Option Rule) → rule_node o none + 0 ≡ 0
    at None = refl
    at (Some r) = refl

    go : (b : Bool) → rule_nodes (cond b (apply n none) (variable n)) ≡ 0
    go true = at (rule_named n)
    go false = refl

rule_upto : (o : Option Rule) (ts : Trees) → rule_node o ts ≤ 1
rule_upto None ts = omega arith
rule_upto (Some r) none = omega arith
rule_upto (Some r) (more t ts) = omega arith

rules_closed : (n : Text) (ts : Trees) (t : Tree) → close n ts ≡ Some t → rule_nodes t ≤ 1 + rule_nodes_in ts
unfolding rule_nodes
rules_closed = closed_cases (λ n ts t. rule_nodes t ≤ 1 + rule_nodes_in ts) (λ n ts c d. omega arith)
    (λ n t u us e. omega (arith, nested_rules t (more u us))) (λ n ts. omega (arith, rule_upto (rule_named n) ts))

abbrev opening : ℕ → ℕ
opening b = cond (eqb b 40) 1 0

openings_total : (s : Text) → total opening s ≡ count_of 40 s
unfolding total count_of
openings_total [] = refl
openings_total (b ∷ s) = ap (λ (n : ℕ). opening b + n) (openings_total s)

unfoldable bracket_measure : Measure
unfolding rule_nodes count_of
bracket_measure = record {
  byte = opening;
  token = count_of 40;
  delimiter = 0;
  tree = rule_nodes;
  trees = rule_nodes_in;
  token_bytes = λ b n. omega (arith, openings_total (b ∷ n));
  comma_token = omega arith;
  bracket_token = omega arith;
  leaf_token = λ n. omega (arith, leaf_rules n);
  no_trees = refl;
  more_trees = λ t ts. omega arith;
  closed = λ n ts t h. omega (arith, rules_closed n ts t h);
}

-- each application of a rule's function with children has a bracket of its own
pub parse_brackets : (s : Text) (t : Tree) → parse s ≡ Some t → rule_nodes t ≤ count_of 40 s
unfolding bracket_measure
parse_brackets s t h = omega (arith, read_measured bracket_measure s t h, openings_total s)
