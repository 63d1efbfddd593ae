-- A scheme's choices: those of the children, then the root's.
use Prim.Native.Nat.{ℕ, zero, suc, ◌+◌, ◌*◌, ◌/◌, ◌%◌, ◌<◌}
use native.Mathlib.Omega.{arith}
use mathlib.Core.Path.{◌≡◌, refl, ap, subst}
use Rattle.rules.specs.Bytes.{Text}
use Rattle.rules.specs.Tree.{Tree, variable, atom, apply, Trees, none, more, children, count, size, sizes}
use Rattle.rules.specs.Reduction.{rule_named}
use Rattle.rules.specs.Variants.{Joined, scheme_count, scheme_counts}
use Rattle.laws.specs.Schemes.{root_count, scheme_at, joined_at}
use Rattle.laws.specs.Memory.{site, sites, sites_in}
use Rattle.laws.proofs.Variants.SchemeCount.{alike}
use Rattle.schemes.specs.Choices.{over, ways_of, root_of, Shared}
use Rattle.schemes.proofs.Dividing.{Split, split}

-- a tree by its children
pub count_children : (t : Tree) → scheme_count t ≡ scheme_counts (children t) * ways_of t
unfolding scheme_count children ways_of root_count
count_children (variable x) = refl
count_children (atom c d) = refl
count_children (apply f ts) = refl

pub scheme_children : (name : ℕ → Text) (t : Tree) (n i : ℕ) → scheme_at name t n i ≡ root_of name t (joined_at name (children t) n (i / ways_of t)) (i % ways_of t)
unfolding scheme_at children ways_of root_of root_count
scheme_children name (variable x) n i = refl
scheme_children name (atom c d) n i = refl
scheme_children name (apply f ts) n i = refl

pub sites_children : (t : Tree) → sites t ≡ sites_in (children t) + site (ways_of t)
unfolding sites children ways_of root_count
sites_children (variable x) = refl
sites_children (atom c d) = refl
sites_children (apply f ts) = refl

pub size_children : (t : Tree) → size t ≡ 1 + sizes (children t)
unfolding size children
size_children (variable x) = refl
size_children (atom c d) = refl
size_children (apply f ts) = refl

-- a tree with as many other children
pub over_same : (t : Tree) → over t (children t) ≡ t
unfolding children
over_same (variable x) = refl
over_same (atom c d) = refl
over_same (apply f ts) = refl

no_count : (us : Trees) → count us ≡ 0 → none ≡ us
no_count none e = refl
no_count (more t us) e = absurd (omega arith)

pub over_children : (t : Tree) (us : Trees) → count us ≡ count (children t) → children (over t us) ≡ us
unfolding children
over_children (variable x) us e = no_count us e
over_children (atom c d) us e = no_count us e
over_children (apply f ts) us e = refl

-- choices depend on the number of children only
pub count_alike : (f : Text) (us ts : Trees) → count us ≡ count ts → root_count f us ≡ root_count f ts
unfolding root_count
count_alike f us ts e = ap (λ (k : ℕ). 1 + k) (alike (rule_named f) us ts e)

pub over_ways : (t : Tree) (us : Trees) → count us ≡ count (children t) → ways_of (over t us) ≡ ways_of t
unfolding children ways_of
over_ways (variable x) us e = refl
over_ways (atom c d) us e = refl
over_ways (apply f ts) us e = count_alike f us ts e

pub over_root : (name : ℕ → Text) (t : Tree) (us : Trees) (j : Joined) (c : ℕ) → root_of name (over t us) j c ≡ root_of name t j c
unfolding root_of
over_root name (variable x) us j c = refl
over_root name (atom a d) us j c = refl
over_root name (apply f ts) us j c = refl

pub joined_count : (name : ℕ → Text) (ts : Trees) (n i : ℕ) → count (joined_at name ts n i).values ≡ count ts
unfolding joined_at
joined_count name none n i = refl
joined_count name (more t ts) n i = ap suc (joined_count name ts (scheme_at name t n (i / scheme_counts ts)).next (i % scheme_counts ts))

-- a root with more than one choice is a site
pub a_site : (k : ℕ) → 1 < k → site k ≡ 1
a_site zero h = absurd (omega arith)
a_site (suc zero) h = absurd (omega arith)
a_site (suc (suc k)) h = refl

-- the ways for a list: those of the first tree and of the later ones, and those of the first tree's children and of its root
module _ (t : Tree) (us : Trees) {ways index : ℕ} (h : Shared (scheme_counts (more t us)) ways index) where
  pub tree_split : Split (scheme_count t) (scheme_counts us) ways index
  unfolding scheme_counts
  tree_split = split (scheme_count t) (scheme_counts us) h

  pub child_split : Split (scheme_counts (children t)) (ways_of t) ways index
  child_split = split (scheme_counts (children t)) (ways_of t) (subst (λ (c : ℕ). Shared c ways index) (count_children t) tree_split.first)
