-- The sites of a term, at which a rule may fire: each at least doubles the schemes, so that 4,096 schemes have at most twelve.
use Prim.Native.Nat.{ℕ, zero, suc, ◌+◌, ◌*◌, ◌≤◌, ◌^◌}
use native.Mathlib.Nat.{le_trans, le_of_eq, mul-le-mul}
use native.Mathlib.Omega.{arith}
use mathlib.Core.Path.{◌≡◌, refl, ◌∙◌, ap}
use mathlib.Core.Bool.{Bool, true, false}
use Rattle.std.specs.Prelude.{Option, Some, None}
use lib.Dec.{leb}
use lib.Pow.{pow-add, pow_mono}
use Rattle.rules.specs.Tree.{Tree, variable, atom, apply, Trees, none, more, count}
use Rattle.rules.specs.declared.Rule.{Rule}
use Rattle.rules.specs.declared.Rule.TheVariants.{Fst, Snd, Flip, Sdec, Kdec}
use Rattle.rules.specs.Reduction.{rule_named}
use Rattle.rules.specs.Variants.{with_one, with_two, firing_count, scheme_count, scheme_counts}
use Rattle.laws.specs.Schemes.{root_count}
use Rattle.laws.specs.Memory.{some_children, rule_node, rule_nodes, rule_nodes_in, site, sites, sites_in}
use Rattle.laws.proofs.Basics.Tests.{leb_true, leb_false}
use Rattle.laws.proofs.Variants.SchemeCount.{alike}

site_some : (k : ℕ) → site (1 + suc k) ≡ 1
site_some k = let e : 1 + suc k ≡ suc (suc k) = omega arith in ap site e

-- children that a rule fires over
pub one_fires : (k : ℕ) {us : Trees} {a : Tree} → us ≡ more a none → site (1 + with_one (suc k) us) ≡ 1
one_fires k e = ap (λ (ts : Trees). site (1 + with_one (suc k) ts)) e ∙ site_some k

pub two_fires : {us : Trees} {a c : Tree} → us ≡ more a (more c none) → site (1 + with_two 1 us) ≡ 1
two_fires e = ap (λ (ts : Trees). site (1 + with_two 1 ts)) e

-- whether there is a site depends on the number of children only
pub site_alike : (o : Option Rule) (us ts : Trees) → count us ≡ count ts → site (1 + firing_count o us) ≡ site (1 + firing_count o ts)
site_alike o us ts e = ap (λ (k : ℕ). site (1 + k)) (alike o us ts e)

-- Schemes

site_doubles : (k : ℕ) → 2 ^ site (1 + k) ≤ 1 + k
site_doubles zero = omega arith
site_doubles (suc k) = le_trans (le_of_eq (ap (λ (n : ℕ). 2 ^ n) (site_some k))) (omega arith)

both_double : (a b m n : ℕ) → 2 ^ a ≤ m → 2 ^ b ≤ n → 2 ^ (a + b) ≤ m * n
both_double a b m n h k = le_trans (le_of_eq (pow-add 2 a b)) (mul-le-mul h k)

mutual
  unfolding sites scheme_count root_count

  pub sites_double : (t : Tree) → 2 ^ sites t ≤ scheme_count t
  sites_double (variable x) = omega arith
  sites_double (atom c d) = omega arith
  sites_double (apply f ts) =
      let k = firing_count (rule_named f) ts in
      both_double (sites_in ts) (site (1 + k)) (scheme_counts ts) (1 + k) (sites_in_double ts) (site_doubles k)

  sites_in_double : (ts : Trees) → 2 ^ sites_in ts ≤ scheme_counts ts
  sites_in_double none = omega arith
  sites_in_double (more t ts) = both_double (sites t) (sites_in ts) (scheme_count t) (scheme_counts ts) (sites_double t) (sites_in_double ts)

pub sites_few : (t : Tree) → scheme_count t ≤ 4096 → sites t ≤ 12
sites_few t h = go (leb (sites t) 12) refl
  where
    go : (b : Bool) → leb (sites t) 12 ≡ b → sites t ≤ 12
    go true e = leb_true (sites t) 12 e
    go false e =
        let k : 2 ^ 13 ≤ 2 ^ sites t = pow_mono {i = 13} {j = sites t} (leb_false (sites t) 12 e) in
        absurd (omega (arith, sites_double t))

-- Applications of the rules' functions

one_site : (k : ℕ) (ts : Trees) → site (1 + with_one k ts) ≤ some_children ts
one_site k none = omega arith
one_site zero (more a none) = omega arith
one_site (suc k) (more a none) = le_of_eq (site_some k)
one_site k (more a (more b ts)) = omega arith

two_site : (k : ℕ) (ts : Trees) → site (1 + with_two k ts) ≤ some_children ts
two_site k none = omega arith
two_site k (more a none) = omega arith
two_site zero (more a (more b none)) = omega arith
two_site (suc k) (more a (more b none)) = le_of_eq (site_some k)
two_site k (more a (more b (more c ts))) = omega arith

site_node : (o : Option Rule) (ts : Trees) → site (1 + firing_count o ts) ≤ rule_node o ts
site_node None ts = omega arith
site_node (Some Fst) ts = one_site 1 ts
site_node (Some Snd) ts = one_site 1 ts
site_node (Some Flip) ts = one_site 2 ts
site_node (Some Sdec) ts = two_site 1 ts
site_node (Some Kdec) ts = two_site 1 ts

mutual
  unfolding sites rule_nodes root_count

  pub sites_nodes : (t : Tree) → sites t ≤ rule_nodes t
  sites_nodes (variable x) = omega arith
  sites_nodes (atom c d) = omega arith
  sites_nodes (apply f ts) = omega (arith, site_node (rule_named f) ts, sites_in_nodes ts)

  sites_in_nodes : (ts : Trees) → sites_in ts ≤ rule_nodes_in ts
  sites_in_nodes none = omega arith
  sites_in_nodes (more t ts) = omega (arith, sites_nodes t, sites_in_nodes ts)
