-- Schemes are no larger than their trees; a site adds two fresh variables and two equations at most.
use Prim.Native.Nat.{ℕ, zero, suc, ◌+◌, ◌*◌, ◌/◌, ◌%◌, ◌≤◌}
use native.Mathlib.Omega.{arith}
use mathlib.Core.Path.{◌≡◌, refl, ap}
use mathlib.Core.List.{List, [], ◌∷◌, map}
use Rattle.std.specs.Prelude.{Option, Some, None}
use lib.ListN.{length, length-append, get_or}
use Rattle.rules.specs.Bytes.{Text}
use Rattle.rules.specs.Tree.{Tree, variable, atom, apply, Trees, none, more, size, sizes}
use Rattle.rules.specs.Substitution.{Pair}
use Rattle.rules.specs.declared.Rule.{Rule}
use Rattle.rules.specs.declared.Rule.TheVariants.{Fst, Snd, Flip, Sdec, Kdec}
use Rattle.rules.specs.Reduction.{rule_named}
use Rattle.rules.specs.Variants.{Scheme, scheme, Joined, only, before, firings, firing_count, root_schemes, scheme_counts}
use Rattle.laws.specs.Schemes.{root_count, root_at, scheme_at, joined_at}
use Rattle.laws.specs.Memory.{site, sites, sites_in}
use Rattle.schemes.proofs.ByChildren.{count_alike, joined_count}

-- at most v nodes, the next fresh variable at most n, at most e equations
pub record Fits (v n e : ℕ) (x : Scheme) : Type 0 where
  pub nodes : size x.value ≤ v
  pub names : x.next ≤ n
  pub equations : length x.equations ≤ e

pub record FitsIn (v n e : ℕ) (j : Joined) : Type 0 where
  pub nodes : sizes j.values ≤ v
  pub names : j.next ≤ n
  pub equations : length j.equations ≤ e

abbrev Every : (v n e : ℕ) → List Scheme → Type 0
Every v n e [] = Unit {0}
Every v n e (x ∷ l) = Fits v n e x × Every v n e l

at_fits : (v n e : ℕ) (l : List Scheme) (d : Scheme) → Every v n e l → Fits v n e d → (c : ℕ) → Fits v n e (get_or l c d)
at_fits v n e [] d h g c = g
at_fits v n e (x ∷ l) d h g zero = h.0
at_fits v n e (x ∷ l) d h g (suc c) = at_fits v n e l d h.1 g c

one_fits : (v n : ℕ) (es : List Pair) (x : Scheme) → size x.value ≡ 1 → x.next ≤ n + 2 → length x.equations ≤ length es + 2 → Fits (1 + v) (n + 2 * 1) (length es + 2 * 1) x
one_fits v n es x h g f = record { nodes = omega arith; names = omega arith; equations = omega arith }

-- by the names of the fresh variables
module _ (name : ℕ → Text) where
  fired_fits : (o : Option Rule) (vs : Trees) (es : List Pair) (n : ℕ)
      → Every (1 + sizes vs) (n + 2 * site (1 + firing_count o vs)) (length es + 2 * site (1 + firing_count o vs)) (only o (λ r. map (before es) (firings name r vs n)))
  unfolding firings size
  fired_fits None vs es n = tt
  fired_fits (Some Fst) none es n = tt
  fired_fits (Some Fst) (more a none) es n = (one_fits (sizes (more a none)) n es _ refl (omega arith) (omega arith), tt)
  fired_fits (Some Fst) (more a (more b ts)) es n = tt
  fired_fits (Some Snd) none es n = tt
  fired_fits (Some Snd) (more a none) es n = (one_fits (sizes (more a none)) n es _ refl (omega arith) (omega arith), tt)
  fired_fits (Some Snd) (more a (more b ts)) es n = tt
  fired_fits (Some Flip) none es n = tt
  fired_fits (Some Flip) (more a none) es n = (one_fits (sizes (more a none)) n es _ refl (omega arith) (omega arith), (one_fits (sizes (more a none)) n es _ refl (omega arith) (omega arith), tt))
  fired_fits (Some Flip) (more a (more b ts)) es n = tt
  fired_fits (Some Sdec) none es n = tt
  fired_fits (Some Sdec) (more a none) es n = tt
  fired_fits (Some Sdec) (more a (more b none)) es n = (one_fits (sizes (more a (more b none))) n es _ refl (omega arith) (omega arith), tt)
  fired_fits (Some Sdec) (more a (more b (more c ts))) es n = tt
  fired_fits (Some Kdec) none es n = tt
  fired_fits (Some Kdec) (more a none) es n = tt
  fired_fits (Some Kdec) (more a (more b none)) es n = (one_fits (sizes (more a (more b none))) n es _ refl (omega arith) (omega arith), tt)
  fired_fits (Some Kdec) (more a (more b (more c ts))) es n = tt

  root_fits : (f : Text) (j : Joined) (c : ℕ)
      → Fits (1 + sizes j.values) (j.next + 2 * site (root_count f j.values)) (length j.equations + 2 * site (root_count f j.values)) (root_at name f j c)
  unfolding root_at root_schemes root_count size
  root_fits f j c =
      let k = 2 * site (root_count f j.values) in
      let stay : Fits (1 + sizes j.values) (j.next + k) (length j.equations + k) (scheme (apply f j.values) j.equations j.next) = record { nodes = omega arith; names = omega arith; equations = omega arith } in
      at_fits _ _ _ (root_schemes name f j) _ (stay, fired_fits (rule_named f) j.values j.equations j.next) stay c

  mutual
    unfolding scheme_at sites size

    pub scheme_fits : (t : Tree) (n i : ℕ) → Fits (size t) (n + 2 * sites t) (2 * sites t) (scheme_at name t n i)
    scheme_fits (variable x) n i = record { nodes = omega arith; names = omega arith; equations = omega arith }
    scheme_fits (atom c d) n i = record { nodes = omega arith; names = omega arith; equations = omega arith }
    scheme_fits (apply f ts) n i =
        let k = root_count f ts in
        let j = joined_at name ts n (i / k) in
        let h = joined_fits ts n (i / k) in
        let g = root_fits f j (i % k) in
        let e = ap site (count_alike f j.values ts (joined_count name ts n (i / k))) in
        record {
          nodes = omega (arith, g.nodes, h.nodes);
          names = omega (arith, g.names, h.names, e);
          equations = omega (arith, g.equations, h.equations, e);
        }

    pub joined_fits : (ts : Trees) (n i : ℕ) → FitsIn (sizes ts) (n + 2 * sites_in ts) (2 * sites_in ts) (joined_at name ts n i)
    joined_fits none n i = record { nodes = omega arith; names = omega arith; equations = omega arith }
    joined_fits (more t ts) n i =
        let x = scheme_at name t n (i / scheme_counts ts) in
        let j = joined_at name ts x.next (i % scheme_counts ts) in
        let h = scheme_fits t n (i / scheme_counts ts) in
        let g = joined_fits ts x.next (i % scheme_counts ts) in
        record {
          nodes = omega (arith, h.nodes, g.nodes);
          names = omega (arith, h.names, g.names);
          equations = omega (arith, h.equations, g.equations, length-append x.equations j.equations);
        }
