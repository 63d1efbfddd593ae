-- The names that the schemes of a term use: the term's, and at most two fresh ones for each site.
use Prim.Native.Nat.{ℕ, zero, suc, ◌+◌, ◌-◌, ◌*◌, ◌≤◌, ◌<◌}
use native.Mathlib.Omega.{arith}
use mathlib.Core.Path.{◌≡◌, refl, sym, ◌∙◌, ap, subst}
use mathlib.Core.Bool.{Bool, true, false, ◌||◌, false≢true}
use mathlib.Core.List.{List, [], ◌∷◌, ◌++◌, map, Memᴰ}
use Rattle.std.specs.Prelude.{Option, Some, None}
use lib.ListN.{length, length-append}
use Rattle.rules.specs.Bytes.{Text, same}
use Rattle.rules.specs.Text.{is_one_of, count_of}
use Rattle.rules.specs.Tree.{Tree, variable, atom, apply, Trees, none, more, count}
use Rattle.rules.specs.Substitution.{Pair}
use Rattle.rules.specs.Reading.{parse}
use Rattle.rules.specs.declared.Rule.{Rule}
use Rattle.rules.specs.declared.Rule.TheVariants.{Fst, Snd, Flip, Sdec, Kdec}
use Rattle.rules.specs.Reduction.{rule_named, arguments1, arguments2}
use Rattle.rules.specs.Variants.{Scheme, Joined, only, fresh, firings, before, root_schemes, join_first, schemes_from, joined, with_one, with_two, firing_count, system}
use Rattle.laws.specs.Schemes.{root_count, listing}
use Rattle.laws.specs.Memory.{Over, Overs, OverPairs, site, sites, sites_in}
use Rattle.laws.proofs.Basics.Tests.{or_left, or_right, same_self}
use Rattle.laws.proofs.Reading.Colons.{parse_brackets}
use Rattle.laws.proofs.Variants.Sites.{one_fires, two_fires, site_alike, sites_nodes}
use Rattle.laws.proofs.Variants.Targets.{All, all_at, all_map, all_flat, one_all, two_all}

over_append : (ns : List Text) (ps qs : List Pair) → OverPairs ns ps → OverPairs ns qs → OverPairs ns (ps ++ qs)
over_append ns [] qs h k = k
over_append ns (p ∷ ps) qs h k = (h.0, h.1, over_append ns ps qs h.2 k)

module _ (name : ℕ → Text) (ns : List Text) where
  -- the fresh names from n on, so many, are among the names
  abbrev pub Fresh : ℕ → ℕ → Type 0
  Fresh n k = (i : ℕ) → n ≤ i → i < n + k → is_one_of ns (name i) ≡ true

  -- a scheme that begins with n and takes at most k fresh names
  abbrev Uses : ℕ → ℕ → Scheme → Type 0
  Uses n k s = (n ≤ s.next) × (s.next ≤ n + k) × Over ns s.value × OverPairs ns s.equations

  abbrev UsesJoined : ℕ → ℕ → Trees → Joined → Type 0
  UsesJoined n k ts j = (count j.values ≡ count ts) × (n ≤ j.next) × (j.next ≤ n + k) × Overs ns j.values × OverPairs ns j.equations

  -- two fresh variables of a site
  two_fresh : (n k : ℕ) → Fresh n (2 * k) → k ≡ 1 → Over ns (fresh name n) × Over ns (fresh name (n + 1))
  two_fresh n k names e = (names n (omega arith) (omega arith), names (n + 1) (omega arith) (omega arith))

  -- the firings of a rule over the children
  module _ (us : Trees) (o : Overs ns us) (n : ℕ) where
    one : (k : ℕ) → (f : Tree → List Scheme) → Fresh n (2 * site (1 + with_one (suc k) us))
        → ((a : Tree) → Over ns a → Over ns (fresh name n) → Over ns (fresh name (n + 1)) → All (Uses n 2) (f a))
        → All (Uses n (2 * site (1 + with_one (suc k) us))) (only (arguments1 us) f)
    one k f names h =
        one_all (Uses n (2 * site (1 + with_one (suc k) us))) f us
        (λ a e.
        let i = one_fires k e in
        let (x, y) = two_fresh n (site (1 + with_one (suc k) us)) names i in
        subst (λ (m : ℕ). All (Uses n (2 * m)) (f a)) (sym i) (h a (subst (Overs ns) e o).0 x y))

    two : (f : Tree × Tree → List Scheme) → Fresh n (2 * site (1 + with_two 1 us))
        → ((a c : Tree) → Over ns a → Over ns c → Over ns (fresh name n) → Over ns (fresh name (n + 1)) → All (Uses n 2) (f (a, c)))
        → All (Uses n (2 * site (1 + with_two 1 us))) (only (arguments2 us) f)
    two f names h =
        two_all (Uses n (2 * site (1 + with_two 1 us))) f us
        (λ a c e.
        let i = two_fires e in
        let (x, y) = two_fresh n (site (1 + with_two 1 us)) names i in
        let p = subst (Overs ns) e o in
        subst (λ (m : ℕ). All (Uses n (2 * m)) (f (a, c))) (sym i) (h a c p.0 p.1.0 x y))

    firings_use : (r : Rule) → Fresh n (2 * site (1 + firing_count (Some r) us)) → All (Uses n (2 * site (1 + firing_count (Some r) us))) (firings name r us n)
    unfolding firings
    firings_use Fst g = one 0 _ g (λ a p x y. ((omega arith, omega arith, x, (p, (x, (y, tt)), tt)), tt))
    firings_use Snd g = one 0 _ g (λ a p x y. ((omega arith, omega arith, y, (p, (x, (y, tt)), tt)), tt))
    firings_use Flip g = one 1 _ g (λ a p x y. ((omega arith, omega arith, tt, (p, tt, tt)), ((omega arith, omega arith, tt, (p, tt, tt)), tt)))
    firings_use Sdec g = two _ g (λ a c p q x y. ((omega arith, omega arith, x, (p, (x, (y, tt)), (q, y, tt))), tt))
    firings_use Kdec g = two _ g (λ a c p q x y. ((omega arith, omega arith, x, (p, (x, ((y, tt), tt)), (q, y, tt))), tt))

  before_uses : (n m k l : ℕ) (es : List Pair) → n ≤ m → m ≤ n + k → OverPairs ns es → (s : Scheme) → Uses m l s → Uses n (l + k) (before es s)
  before_uses n m k l es p q o s h =
      let a = h.0 in
      let b = h.1 in
      (omega arith, omega arith, h.2, over_append ns s.equations es h.3 o)

  root_uses : (f : Text) (ts : Trees) (n : ℕ) (j : Joined) → Fresh n (2 * (sites_in ts + site (root_count f ts))) → UsesJoined n (2 * sites_in ts) ts j
      → All (Uses n (2 * (sites_in ts + site (root_count f ts)))) (root_schemes name f j)
  unfolding root_schemes root_count
  root_uses f ts n j names h = ((h.1, (let a = h.2 in omega arith), h.3, h.4), go (rule_named f) names)
    where
      go : (o : Option Rule) → Fresh n (2 * (sites_in ts + site (1 + firing_count o ts)))
          → All (Uses n (2 * (sites_in ts + site (1 + firing_count o ts)))) (only o (λ r. map (before j.equations) (firings name r j.values j.next)))
      go None g = tt
      go (Some r) g =
          let a = h.1 in
          let b = h.2 in
          let c = site_alike (Some r) j.values ts h.0 in
          let k = 2 * site (1 + firing_count (Some r) j.values) in
          let fits : Fresh j.next k = λ i p q. g i (omega arith) (omega arith) in
          let sum : 2 * site (1 + firing_count (Some r) j.values) + 2 * sites_in ts ≡ 2 * (sites_in ts + site (1 + firing_count (Some r) ts)) = omega arith in
          subst (λ (l : ℕ). All (Uses n l) (map (before j.equations) (firings name r j.values j.next))) sum
          (all_map (Uses j.next k) (Uses n (k + 2 * sites_in ts)) (before j.equations) (before_uses n j.next (2 * sites_in ts) k j.equations a b h.4)
          (firings name r j.values j.next) (firings_use j.values h.3 j.next r fits))

  first_uses : (n k l : ℕ) (t : Tree) (ts : Trees) (s : Scheme) → Uses n k s → (j : Joined) → UsesJoined s.next l ts j → UsesJoined n (k + l) (more t ts) (join_first s j)
  first_uses n k l t ts s g j h =
      let a = g.0 in
      let b = g.1 in
      let c = h.1 in
      let d = h.2 in
      (ap suc h.0, omega arith, omega arith, (g.2, h.3), over_append ns s.equations j.equations g.3 h.4)

  later_fresh : (n k l m : ℕ) → n ≤ m → m ≤ n + k → Fresh n (k + l) → Fresh m l
  later_fresh n k l m a b g i p q = g i (omega arith) (omega arith)

  mutual
    unfolding schemes_from sites

    schemes_use : (t : Tree) (n : ℕ) → Over ns t → Fresh n (2 * sites t) → All (Uses n (2 * sites t)) (schemes_from name t n)
    schemes_use (variable x) n o g = ((omega arith, omega arith, o, tt), tt)
    schemes_use (atom c d) n o g = ((omega arith, omega arith, tt, tt), tt)
    schemes_use (apply f ts) n o g =
        all_flat (UsesJoined n (2 * sites_in ts) ts) (Uses n (2 * (sites_in ts + site (root_count f ts)))) (root_schemes name f)
        (λ j h. root_uses f ts n j g h) (joined name ts n) (joined_use ts n o (λ i p q. g i p (omega arith)))

    joined_use : (ts : Trees) (n : ℕ) → Overs ns ts → Fresh n (2 * sites_in ts) → All (UsesJoined n (2 * sites_in ts) ts) (joined name ts n)
    joined_use none n o g = ((refl, omega arith, omega arith, tt, tt), tt)
    joined_use (more t ts) n o g =
        let k = 2 * sites t in
        let l = 2 * sites_in ts in
        let sum : 2 * sites t + 2 * sites_in ts ≡ 2 * (sites t + sites_in ts) = omega arith in
        subst (λ (m : ℕ). All (UsesJoined n m (more t ts)) (joined name (more t ts) n)) sum
        (all_flat (Uses n k) (UsesJoined n (k + l) (more t ts)) (λ s. map (join_first s) (joined name ts s.next))
        (λ s h. all_map (UsesJoined s.next l ts) (UsesJoined n (k + l) (more t ts)) (join_first s) (first_uses n k l t ts s h) (joined name ts s.next)
        (joined_use ts s.next o.1 (later_fresh n k l s.next h.0 h.1 (λ i p q. g i p (omega arith)))))
        (schemes_from name t n) (schemes_use t n o.0 (λ i p q. g i p (omega arith))))

  -- the equations that a scheme is solved by
  pub system_over : (term : Tree) (n : ℕ) (s : Scheme) → Memᴰ s (schemes_from name term n) → Over ns term → Fresh n (2 * sites term)
      → OverPairs ns (system term s) × Over ns s.value
  system_over term n s m o g =
      let h = all_at (Uses n (2 * sites term)) (schemes_from name term n) s m (schemes_use term n o g) in
      (over_append ns s.equations ((term, term) ∷ (s.value, s.value) ∷ []) h.3 (o, o, (h.2, h.2, tt)), h.2)

-- Such names: those of the term, with two fresh ones for each site

one_of_left : (ns ms : List Text) (x : Text) → is_one_of ns x ≡ true → is_one_of (ns ++ ms) x ≡ true
unfolding is_one_of
one_of_left (n ∷ ns) ms x h = go (same x n) h (one_of_left ns ms x)
  where
    go : (b : Bool) → (b || is_one_of ns x) ≡ true → (is_one_of ns x ≡ true → is_one_of (ns ++ ms) x ≡ true) → (b || is_one_of (ns ++ ms) x) ≡ true
    go true k ih = refl
    go false k ih = ih k
one_of_left [] ms x h = absurd (false≢true h)

one_of_right : (ns ms : List Text) (x : Text) → is_one_of ms x ≡ true → is_one_of (ns ++ ms) x ≡ true
unfolding is_one_of
one_of_right [] ms x h = h
one_of_right (n ∷ ns) ms x h = ap (λ (b : Bool). same x n || b) (one_of_right ns ms x h) ∙ or_right (same x n)

mutual
  pub over_more : (ns ms : List Text) (t : Tree) → Over ms t → Over (ns ++ ms) t
  over_more ns ms (variable x) h = one_of_right ns ms x h
  over_more ns ms (atom c d) h = tt
  over_more ns ms (apply f ts) h = overs_more ns ms ts h

  overs_more : (ns ms : List Text) (ts : Trees) → Overs ms ts → Overs (ns ++ ms) ts
  overs_more ns ms none h = tt
  overs_more ns ms (more t ts) h = (over_more ns ms t h.0, overs_more ns ms ts h.1)

listing_length : (k : ℕ) (g : ℕ → Text) → length (listing k g) ≡ k
unfolding listing
listing_length zero g = refl
listing_length (suc k) g = let h = listing_length k (λ i. g (suc i)) in omega arith

listing_holds : (k i : ℕ) (g : ℕ → Text) → i < k → is_one_of (listing k g) (g i) ≡ true
unfolding listing is_one_of
listing_holds zero i g h = absurd (omega arith)
listing_holds (suc k) zero g h = or_left (same (g 0) (g 0)) (is_one_of (listing k (λ i. g (suc i))) (g 0)) (same_self (g 0))
listing_holds (suc k) (suc i) g h =
    ap (λ (b : Bool). same (g (suc i)) (g 0) || b) (listing_holds k i (λ j. g (suc j)) (omega arith)) ∙ or_right (same (g (suc i)) (g 0))

-- the names from the n-th on
unfoldable pub fresh_names : (ℕ → Text) → ℕ → ℕ → List Text
fresh_names name n k = listing k (λ i. name (n + i))

fresh_length : (name : ℕ → Text) (n k : ℕ) → length (fresh_names name n k) ≡ k
unfolding fresh_names
fresh_length name n k = listing_length k (λ i. name (n + i))

pub fresh_held : (name : ℕ → Text) (ns : List Text) (n k : ℕ) → Fresh name (fresh_names name n k ++ ns) n k
unfolding fresh_names
fresh_held name ns n k i p q =
    let e : n + (i - n) ≡ i = omega arith in
    one_of_left (listing k (λ j. name (n + j))) ns (name i)
    (subst (λ (m : ℕ). is_one_of (listing k (λ j. name (n + j))) (name m) ≡ true) e (listing_holds k (i - n) (λ j. name (n + j)) (omega arith)))

-- names for all schemes of a term
pub site_names : (name : ℕ → Text) (term : Tree) (ns : List Text) → Over ns term → (n : ℕ)
    → (ms : List Text) × (length ms ≡ length ns + 2 * sites term)
    × ((r : Scheme) → Memᴰ r (schemes_from name term n) → OverPairs ms (system term r) × Over ms r.value)
site_names name term ns o n =
    let k = 2 * sites term in
    let xs = fresh_names name n k in (
      xs ++ ns,
      omega (arith, length-append xs ns, fresh_length name n k),
      λ r m. system_over name (xs ++ ns) term n r m (over_more xs ns term o) (fresh_held name ns n k),
    )

-- of a term that is read: as many more as twice its brackets, at most
pub scheme_names : (name : ℕ → Text) (s : Text) (term : Tree) → parse s ≡ Some term → (ns : List Text) → Over ns term → (n : ℕ)
    → (ms : List Text) × (length ms ≤ length ns + 2 * count_of 40 s)
    × ((r : Scheme) → Memᴰ r (schemes_from name term n) → OverPairs ms (system term r) × Over ms r.value)
scheme_names name s term e ns o n =
    let (ms, l, h) = site_names name term ns o n in
    (ms, omega (arith, parse_brackets s term e, sites_nodes term), h)
