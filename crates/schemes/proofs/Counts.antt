-- The choices at the root of a cell, and counts of schemes.
use Prim.Native.Nat.{ℕ, ◌<◌, ◌≤◌}
use native.Mathlib.Nat.{mul-pos}
use native.Mathlib.Omega.{arith}
use mathlib.Core.Path.{◌≡◌, sym, ap, ◌∙◌}
use mathlib.Core.List.{List}
use Rattle.std.specs.Prelude.{Option, Some, None}
use Rattle.rules.specs.Bytes.{Text}
use Rattle.rules.specs.Tree.{Tree, variable, atom, apply, Trees, none, more, children}
use Rattle.rules.specs.declared.Rule.{Rule}
use Rattle.rules.specs.declared.Rule.TheVariants.{Fst, Snd, Flip, Sdec, Kdec}
use Rattle.rules.specs.Reduction.{rule_named}
use Rattle.rules.specs.Variants.{firing_count, with_one, with_two, scheme_count, scheme_counts}
use Rattle.laws.specs.Schemes.{root_count}
use Rattle.tree.specs.Cells.{kind_of, name_at, tree_at}
use Rattle.tree.proofs.Decoding.{Kind, application, a_variable, an_atom, kind, tree_variable, tree_atom, tree_apply}
use Rattle.schemes.specs.Choices.{over, ways_of}
use Rattle.schemes.proofs.ByChildren.{over_same}

-- firings by the children
pub with_one_few : (k : ℕ) (ts : Trees) → with_one k ts ≤ k
with_one_few k none = omega arith
with_one_few k (more a none) = omega arith
with_one_few k (more a (more b ts)) = omega arith

pub with_two_few : (k : ℕ) (ts : Trees) → with_two k ts ≤ k
with_two_few k none = omega arith
with_two_few k (more a none) = omega arith
with_two_few k (more a (more b none)) = omega arith
with_two_few k (more a (more b (more c ts))) = omega arith

firings_few : (o : Option Rule) (ts : Trees) → firing_count o ts ≤ 2
firings_few None ts = omega arith
firings_few (Some Fst) ts = omega (arith, with_one_few 1 ts)
firings_few (Some Snd) ts = omega (arith, with_one_few 1 ts)
firings_few (Some Flip) ts = with_one_few 2 ts
firings_few (Some Sdec) ts = omega (arith, with_two_few 1 ts)
firings_few (Some Kdec) ts = omega (arith, with_two_few 1 ts)

pub ways_few : (t : Tree) → (0 < ways_of t) × (ways_of t < 4)
unfolding ways_of root_count
ways_few (variable x) = (omega arith, omega arith)
ways_few (atom c d) = (omega arith, omega arith)
ways_few (apply f ts) = (omega arith, omega (arith, firings_few (rule_named f) ts))

-- a cell by its kind
module _ (s : Text) (w : List ℕ) (k : ℕ) where
  leaf_facts : (us : Trees) → 0 < kind_of w k → (over (tree_at s w k) us ≡ tree_at s w k) × (ways_of (over (tree_at s w k) us) ≡ 1)
  unfolding ways_of
  leaf_facts us p = go (kind (kind_of w k))
    where
      go : Kind (kind_of w k) → (over (tree_at s w k) us ≡ tree_at s w k) × (ways_of (over (tree_at s w k) us) ≡ 1)
      go (application e) = absurd (omega arith)
      go (a_variable h q) =
          let e = tree_variable s w k h q in
          (ap (λ (t : Tree). over t us) e ∙ sym e, ap (λ (t : Tree). ways_of (over t us)) e)
      go (an_atom h) =
          let e = tree_atom s w k h in
          (ap (λ (t : Tree). over t us) e ∙ sym e, ap (λ (t : Tree). ways_of (over t us)) e)

  pub leaf_over : (us : Trees) → 0 < kind_of w k → over (tree_at s w k) us ≡ tree_at s w k
  leaf_over us p = (leaf_facts us p).0

  pub leaf_ways : (us : Trees) → 0 < kind_of w k → ways_of (over (tree_at s w k) us) ≡ 1
  leaf_ways us p = (leaf_facts us p).1

  pub node_over : (us : Trees) → kind_of w k ≡ 0 → over (tree_at s w k) us ≡ apply (name_at s w k) us
  node_over us e = ap (λ (t : Tree). over t us) (tree_apply s w k e)

  pub node_ways : (us : Trees) → kind_of w k ≡ 0 → ways_of (over (tree_at s w k) us) ≡ root_count (name_at s w k) us
  unfolding ways_of
  node_ways us e = ap ways_of (node_over us e)

-- the choices at a tree with its own children
pub own_ways : (t : Tree) (ts : Trees) → ts ≡ children t → ways_of (over t ts) ≡ ways_of t
own_ways t ts e = ap (λ (us : Trees). ways_of (over t us)) e ∙ ap ways_of (over_same t)

-- the count of schemes of a list, and of a tree
mutual
  unfolding scheme_count

  pub count_positive : (t : Tree) → 0 < scheme_count t
  count_positive (variable x) = omega arith
  count_positive (atom c d) = omega arith
  count_positive (apply f ts) = mul-pos (counts_positive ts) (omega arith)

  pub counts_positive : (ts : Trees) → 0 < scheme_counts ts
  counts_positive none = omega arith
  counts_positive (more t ts) = mul-pos (count_positive t) (counts_positive ts)
