-- How large the equations are by which a scheme is solved: for each site of the term at most two, with values of the site's children on
-- the left and at most four nodes on the right.
use Prim.Native.Nat.{ℕ, zero, suc, ◌+◌, ◌*◌, ◌≤◌, ◌<◌}
use native.Mathlib.Nat.{le_trans, le_of_eq, add-le-add, add-mul, mul-le-mul_left}
use native.Mathlib.Omega.{arith}
use mathlib.Core.Path.{◌≡◌, refl, sym, ap, subst}
use mathlib.Core.Bool.{true}
use mathlib.Core.List.{List, [], ◌∷◌, ◌++◌, map, Memᴰ}
use Rattle.std.specs.Prelude.{slice_get, Option, Some, None}
use Rattle.laws.proofs.Basics.Somes.{none_ne_some, some_injective}
use lib.ListN.{length, length-append}
use Rattle.rules.specs.Bytes.{Text}
use Rattle.rules.specs.Names.{variable_token}
use Rattle.rules.specs.Tree.{Tree, variable, atom, apply, Trees, none, more, count, size, sizes}
use Rattle.rules.specs.Substitution.{Pair, size_pairs}
use Rattle.rules.specs.declared.Rule.{Rule}
use Rattle.rules.specs.declared.Rule.TheVariants.{Fst, Snd, Flip, Sdec, Kdec}
use Rattle.rules.specs.Reduction.{rule_named, pair, senc, kem, role_a, role_b, arguments1, arguments2}
use Rattle.rules.specs.Variants.{Scheme, Joined, only, fresh, firings, before, root_schemes, join_first, schemes_from, joined, with_one, with_two, firing_count, scheme_count, system}
use Rattle.laws.specs.Schemes.{root_count, scheme_at}
use Rattle.rules.specs.Tidy.{Built}
use Rattle.laws.specs.Memory.{site, sites, sites_in, weight}
use Rattle.laws.proofs.Solving.Keeping.{Sides}
use Rattle.laws.proofs.Solving.Weights.{size_some, weight_size, Upto}
use Rattle.laws.proofs.Sheets.BuiltRun.{BuiltPairs}
use Rattle.laws.proofs.Variants.SchemeAt.{scheme_found}
use Rattle.laws.proofs.Variants.Sites.{one_fires, two_fires, site_alike}
use Rattle.laws.proofs.Variants.Targets.{All, all_at, all_map, all_flat, one_all, two_all, system_built}

-- Pairs one after the other

size_append : (ps qs : List Pair) → size_pairs (ps ++ qs) ≡ size_pairs ps + size_pairs qs
unfolding size_pairs
size_append [] qs = omega arith
size_append (p ∷ ps) qs = let h = size_append ps qs in omega arith

sides_append : (P Q R S : Tree → Type 0) → ((t : Tree) → P t → R t) → ((t : Tree) → Q t → S t) → (ps qs : List Pair) → Sides P Q ps → Sides R S qs → Sides R S (ps ++ qs)
sides_append P Q R S f g [] qs h k = k
sides_append P Q R S f g (p ∷ ps) qs h k = (f p.0 h.0, g p.1 h.1, sides_append P Q R S f g ps qs h.2 k)

-- Equations

module _ (N : ℕ) where
  -- the equations of k sites in a tree of at most N nodes
  record Room (k : ℕ) (es : List Pair) : Type 0 where
    pub few : length es ≤ 2 * k
    pub nodes : size_pairs es ≤ k * (N + 4)
    pub sides : Sides (Upto N) (Upto 4) es

  no_room : (k : ℕ) → Room k []
  unfolding size_pairs
  no_room k = record { few = omega arith; nodes = omega arith; sides = tt }

  both_room : (k l : ℕ) (ps qs : List Pair) → Room k ps → Room l qs → Room (k + l) (ps ++ qs)
  both_room k l ps qs a b = record {
    few = omega (arith, a.few, b.few, length-append ps qs);
    nodes = le_trans (le_of_eq (size_append ps qs)) (le_trans (add-le-add a.nodes b.nodes) (le_of_eq (sym (add-mul k l (N + 4)))));
    sides = sides_append (Upto N) (Upto 4) (Upto N) (Upto 4) (λ t h. h) (λ t h. h) ps qs a.sides b.sides;
  }

  one_room : (a b : Tree) → size a < N → size b ≤ 4 → Room 1 ((a, b) ∷ [])
  unfolding size_pairs
  one_room a b h g = record { few = omega arith; nodes = omega arith; sides = (omega arith, g, tt) }

  two_room : (a b c d : Tree) → size a + size c < N → size b + size d ≤ 5 → Room 1 ((a, b) ∷ (c, d) ∷ [])
  unfolding size_pairs
  two_room a b c d h g = record {
    few = omega arith;
    nodes = omega arith;
    sides = (omega arith, omega (arith, size_some d), (omega arith, omega (arith, size_some b), tt));
  }

  -- Schemes

  -- of a value of at most v nodes, with k sites, from the fresh variable n on
  abbrev Fits : ℕ → ℕ → ℕ → Scheme → Type 0
  Fits v k n s = (size s.value ≤ v) × (s.next ≤ n + 2 * k) × Room k s.equations

  abbrev FitsJoined : Trees → ℕ → Joined → Type 0
  FitsJoined ts n j = (count j.values ≡ count ts) × (sizes j.values ≤ sizes ts) × (j.next ≤ n + 2 * sites_in ts) × Room (sites_in ts) j.equations

  child_under : (a : Tree) (us : Trees) → us ≡ more a none → sizes us < N → size a < N
  unfolding size
  child_under a us e h = let i = ap sizes e in omega arith

  children_under : (a c : Tree) (us : Trees) → us ≡ more a (more c none) → sizes us < N → size a + size c < N
  unfolding size
  children_under a c us e h = let i = ap sizes e in omega arith

  first_fits : (t : Tree) (ts : Trees) (n : ℕ) (s : Scheme) → Fits (size t) (sites t) n s → (j : Joined) → FitsJoined ts s.next j → FitsJoined (more t ts) n (join_first s j)
  unfolding size sites
  first_fits t ts n s g j h =
      (ap suc h.0, omega (arith, g.0, h.1), omega (arith, g.1, h.2), both_room (sites t) (sites_in ts) s.equations j.equations g.2 h.3)

  -- by the names of the fresh variables
  module _ (name : ℕ → Text) where
    -- the firings of a rule over the children
    module _ (us : Trees) (small : sizes us < N) (n : ℕ) where
      one : (k : ℕ) (f : Tree → List Scheme) → ((a : Tree) → size a < N → All (Fits 1 1 n) (f a)) → All (Fits 1 (site (1 + with_one (suc k) us)) n) (only (arguments1 us) f)
      one k f h = one_all (Fits 1 (site (1 + with_one (suc k) us)) n) f us at
        where
          at : (a : Tree) → us ≡ more a none → All (Fits 1 (site (1 + with_one (suc k) us)) n) (f a)
          at a e = subst (λ (m : ℕ). All (Fits 1 m n) (f a)) (sym (one_fires k e)) (h a (child_under a us e small))

      two : (f : Tree × Tree → List Scheme) → ((a c : Tree) → size a + size c < N → All (Fits 1 1 n) (f (a, c))) → All (Fits 1 (site (1 + with_two 1 us)) n) (only (arguments2 us) f)
      two f h = two_all (Fits 1 (site (1 + with_two 1 us)) n) f us at
        where
          at : (a c : Tree) → us ≡ more a (more c none) → All (Fits 1 (site (1 + with_two 1 us)) n) (f (a, c))
          at a c e = subst (λ (m : ℕ). All (Fits 1 m n) (f (a, c))) (sym (two_fires e)) (h a c (children_under a c us e small))

      firings_fit : (r : Rule) → All (Fits 1 (site (1 + firing_count (Some r) us)) n) (firings name r us n)
      unfolding firings size
      firings_fit Fst = one 0 _ (λ a h. ((omega arith, omega arith, one_room a (pair (fresh name n) (fresh name (n + 1))) h (omega arith)), tt))
      firings_fit Snd = one 0 _ (λ a h. ((omega arith, omega arith, one_room a (pair (fresh name n) (fresh name (n + 1))) h (omega arith)), tt))
      firings_fit Flip =
          one 1 _ (λ a h. ((omega arith, omega arith, one_room a role_a h (omega arith)), ((omega arith, omega arith, one_room a role_b h (omega arith)), tt)))
      firings_fit Sdec = two _ (λ a c h. ((omega arith, omega arith, two_room a (senc (fresh name n) (fresh name (n + 1))) c (fresh name (n + 1)) h (omega arith)), tt))
      firings_fit Kdec = two _ (λ a c h. ((omega arith, omega arith, two_room a (kem (fresh name n) (fresh name (n + 1))) c (fresh name (n + 1)) h (omega arith)), tt))

    root_fits : (f : Text) (ts : Trees) (n : ℕ) (j : Joined) → sizes ts < N → FitsJoined ts n j
        → All (Fits (1 + sizes ts) (sites_in ts + site (root_count f ts)) n) (root_schemes name f j)
    unfolding root_schemes root_count size
    root_fits f ts n j small h = ((omega (arith, h.1), omega (arith, h.2), stay (site (1 + firing_count (rule_named f) ts))), go (rule_named f))
      where
        more_room : (k : ℕ) (es : List Pair) → Room k es → Room (k + sites_in ts) (es ++ j.equations)
        more_room k es r = both_room k (sites_in ts) es j.equations r h.3

        exchange : (k : ℕ) (es : List Pair) → Room (k + sites_in ts) es → Room (sites_in ts + k) es
        exchange k es r = let e : k + sites_in ts ≡ sites_in ts + k = omega arith in subst (λ (m : ℕ). Room m es) e r

        stay : (k : ℕ) → Room (sites_in ts + k) j.equations
        stay k = exchange k j.equations (more_room k [] (no_room k))

        fired : (k : ℕ) (s : Scheme) → Fits 1 k j.next s → Fits (1 + sizes ts) (sites_in ts + k) n (before j.equations s)
        fired k s g = (omega (arith, g.0), omega (arith, g.1, h.2), exchange k (s.equations ++ j.equations) (more_room k s.equations g.2))

        go : (o : Option Rule) → All (Fits (1 + sizes ts) (sites_in ts + site (1 + firing_count o ts)) n) (only o (λ r. map (before j.equations) (firings name r j.values j.next)))
        go None = tt
        go (Some r) =
            let k = site (1 + firing_count (Some r) j.values) in
            subst (λ (m : ℕ). All (Fits (1 + sizes ts) (sites_in ts + m) n) (map (before j.equations) (firings name r j.values j.next)))
            (site_alike (Some r) j.values ts h.0)
            (all_map (Fits 1 k j.next) (Fits (1 + sizes ts) (sites_in ts + k) n) (before j.equations) (fired k) (firings name r j.values j.next)
            (firings_fit j.values (omega (arith, h.1)) j.next r))

    mutual
      unfolding schemes_from size sites

      schemes_fit : (t : Tree) (n : ℕ) → size t ≤ N → All (Fits (size t) (sites t) n) (schemes_from name t n)
      schemes_fit (variable x) n h = ((omega arith, omega arith, no_room 0), tt)
      schemes_fit (atom c d) n h = ((omega arith, omega arith, no_room 0), tt)
      schemes_fit (apply f ts) n h =
          all_flat (FitsJoined ts n) (Fits (1 + sizes ts) (sites_in ts + site (root_count f ts)) n) (root_schemes name f)
          (λ j k. root_fits f ts n j (omega arith) k) (joined name ts n) (joined_fit ts n (omega arith))

      joined_fit : (ts : Trees) (n : ℕ) → sizes ts ≤ N → All (FitsJoined ts n) (joined name ts n)
      joined_fit none n h = ((refl, omega arith, omega arith, no_room 0), tt)
      joined_fit (more t ts) n h =
          all_flat (Fits (size t) (sites t) n) (FitsJoined (more t ts) n) (λ s. map (join_first s) (joined name ts s.next))
          (λ s g. all_map (FitsJoined ts s.next) (FitsJoined (more t ts) n) (join_first s) (first_fits t ts n s g) (joined name ts s.next) (joined_fit ts s.next (omega arith)))
          (schemes_from name t n) (schemes_fit t n (omega arith))

-- Systems

-- the term and the value wait beside themselves
system_size : (term v : Tree) (es : List Pair) → size v ≤ size term → size_pairs (es ++ ((term, term) ∷ (v, v) ∷ [])) ≤ 4 * size term + size_pairs es
unfolding size_pairs
system_size term v es h = omega (arith, size_append es ((term, term) ∷ (v, v) ∷ []))

plus_upto : (a b c : ℕ) → b ≤ c → a + b ≤ a + c
plus_upto a b c h = omega arith

module _ (name : ℕ → Text) (term : Tree) (small : size term ≤ 4096) (n : ℕ) (s : Scheme) (listed : Memᴰ s (schemes_from name term n)) where
  fits : Fits (size term) (size term) (sites term) n s
  fits = all_at (Fits (size term) (size term) (sites term) n) (schemes_from name term n) s listed (schemes_fit (size term) name term n (omega arith))

  limit : size_pairs (system term s) ≤ 4 * size term + sites term * (size term + 4)
  limit =
      le_trans (system_size term s.value s.equations fits.0)
      (plus_upto (4 * size term) (size_pairs s.equations) (sites term * (size term + 4)) fits.2.nodes)

  sides : Sides (Upto 4096) (Upto 4096) (system term s)
  sides =
      sides_append (Upto (size term)) (Upto 4) (Upto 4096) (Upto 4096) (λ t i. omega arith) (λ t i. omega arith) s.equations
      ((term, term) ∷ (s.value, s.value) ∷ []) fits.2.sides (small, small, (omega (arith, fits.0), omega (arith, fits.0), tt))

  -- each site adds at most a term, and four nodes
  pub system_nodes : size_pairs (system term s) ≤ 4 * size term + 4100 * sites term
  system_nodes =
      let h : sites term * (size term + 4) ≤ sites term * 4100 = mul-le-mul_left (sites term) (omega arith) in
      let k = plus_upto (4 * size term) (sites term * (size term + 4)) (sites term * 4100) h in
      le_trans limit (le_trans k (omega arith))

-- what a scheme of the term and its system take, from the fresh variable n on
pub record SystemRoom (term : Tree) (n : ℕ) (s : Scheme) : Type 0 where
  pub value : size s.value ≤ size term
  pub next : s.next ≤ n + 2 * sites term
  pub few : length s.equations ≤ 2 * sites term
  pub nodes : size_pairs (system term s) ≤ 4 * size term + sites term * (size term + 4)
  pub weighs : weight (system term s) ≤ 4 * size term + sites term * (size term + 4)
  pub built : BuiltPairs (system term s)
  pub within : Sides (Upto 4096) (Upto 4096) (system term s)

-- by names that are variable tokens
pub system_room : (name : ℕ → Text) → ((i : ℕ) → variable_token (name i) ≡ true) → (term : Tree) → Built term → size term ≤ 4096
    → (n : ℕ) (s : Scheme) → Memᴰ s (schemes_from name term n) → SystemRoom term n s
system_room name tokens term built small n s listed =
    let h = fits name term small n s listed in
    let l = limit name term small n s listed in
    record {
      value = h.0;
      next = h.1;
      few = h.2.few;
      nodes = l;
      weighs = le_trans (weight_size (system term s)) l;
      built = system_built name tokens term built small n s listed;
      within = sides name term small n s listed;
    }

-- a scheme made by its number is one of the schemes
found_listed : {A : Type 0} (l : List A) (i : ℕ) (a : A) → slice_get l i ≡ Some a → Memᴰ a l
found_listed [] i a h = absurd (none_ne_some a h)
found_listed (b ∷ l) zero a h = Memᴰ.head (sym (some_injective b a h))
found_listed (b ∷ l) (suc i) a h = Memᴰ.tail (found_listed l i a h)

pub scheme_listed : (name : ℕ → Text) (term : Tree) (n i : ℕ) → i < scheme_count term → Memᴰ (scheme_at name term n i) (schemes_from name term n)
scheme_listed name term n i h = found_listed (schemes_from name term n) i (scheme_at name term n i) (scheme_found name term n i h)
