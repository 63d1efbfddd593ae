-- Renamed, the schemes of a term by a naming of the fresh variables are those of the renamed term by the renamed naming.
use Prim.Native.Nat.{ℕ, ◌+◌}
use mathlib.Core.Path.{◌≡◌, refl, ◌∙◌, ap, ap₂}
use mathlib.Core.List.{List, [], ◌∷◌, ◌++◌, map, flat_map, map-append}
use Rattle.std.specs.Prelude.{Option, Some, None}
use Rattle.rules.specs.Bytes.{Text}
use Rattle.rules.specs.Tree.{Tree, variable, atom, apply, Trees, none, more}
use Rattle.rules.specs.Substitution.{substitute, Pair}
use Rattle.rules.specs.declared.Rule.{Rule}
use Rattle.rules.specs.declared.Rule.TheVariants.{Fst, Snd, Flip, Sdec, Kdec}
use Rattle.rules.specs.Reduction.{rule_named, pair, senc, kem, arguments1, arguments2}
use Rattle.rules.specs.Variants.{Scheme, scheme, Joined, only, firings, before, root_schemes, join_first, schemes_from, joined}
use Rattle.laws.proofs.Renaming.Renamed.{rename, renames, rename_pair, rename_pairs, rename_scheme}

-- Lists

module _ {A B C D : Type 0} (f : A → List B) (g : C → List D) (h : B → D) (k : A → C) (e : (a : A) → map h (f a) ≡ g (k a)) where
  flat_mapped : (l : List A) → map h (flat_map f l) ≡ flat_map g (map k l)
  unfolding flat_map
  flat_mapped [] = refl
  flat_mapped (a ∷ l) = map-append h (f a) (flat_map f l) ∙ ap₂ ◌++◌ (e a) (flat_mapped l)

module _ {A B C D : Type 0} (f : A → B) (g : C → D) (h : B → D) (k : A → C) (e : (a : A) → h (f a) ≡ g (k a)) where
  twice_mapped : (l : List A) → map h (map f l) ≡ map g (map k l)
  twice_mapped [] = refl
  twice_mapped (a ∷ l) = ap₂ (λ (d : D) (ds : List D). d ∷ ds) (e a) (twice_mapped l)

module _ (r : Text → Text) (name name₂ : ℕ → Text) (names : (n : ℕ) → r (name n) ≡ name₂ n) where
  abbrev rename_joined : Joined → Joined
  rename_joined j = record { values = renames r j.values; equations = rename_pairs r j.equations; next = j.next }

  -- Firings

  one_renamed : (f g : Tree → List Scheme) → ((a : Tree) → map (rename_scheme r) (f a) ≡ g (rename r a)) → (ts : Trees)
      → map (rename_scheme r) (only (arguments1 ts) f) ≡ only (arguments1 (renames r ts)) g
  unfolding substitute
  one_renamed f g e none = refl
  one_renamed f g e (more a none) = e a
  one_renamed f g e (more a (more b ts)) = refl

  two_renamed : (f g : Tree × Tree → List Scheme) → ((a b : Tree) → map (rename_scheme r) (f (a, b)) ≡ g (rename r a, rename r b)) → (ts : Trees)
      → map (rename_scheme r) (only (arguments2 ts) f) ≡ only (arguments2 (renames r ts)) g
  unfolding substitute
  two_renamed f g e none = refl
  two_renamed f g e (more a none) = refl
  two_renamed f g e (more a (more b none)) = e a b
  two_renamed f g e (more a (more b (more c ts))) = refl

  firings_renamed : (q : Rule) (ts : Trees) (n : ℕ) → map (rename_scheme r) (firings name q ts n) ≡ firings name₂ q (renames r ts) n
  unfolding firings substitute
  firings_renamed Fst ts n =
      one_renamed _ _
      (λ a. ap₂ (λ (x y : Text). scheme (variable x) ((rename r a, pair (variable x) (variable y)) ∷ []) (n + 2) ∷ []) (names n) (names (n + 1))) ts
  firings_renamed Snd ts n =
      one_renamed _ _
      (λ a. ap₂ (λ (x y : Text). scheme (variable y) ((rename r a, pair (variable x) (variable y)) ∷ []) (n + 2) ∷ []) (names n) (names (n + 1))) ts
  firings_renamed Flip ts n = one_renamed _ _ (λ a. refl) ts
  firings_renamed Sdec ts n =
      two_renamed _ _
      (λ a b. ap₂ (λ (x y : Text). scheme (variable x) ((rename r a, senc (variable x) (variable y)) ∷ (rename r b, variable y) ∷ []) (n + 2) ∷ []) (names n) (names (n + 1))) ts
  firings_renamed Kdec ts n =
      two_renamed _ _
      (λ a b. ap₂ (λ (x y : Text). scheme (variable x) ((rename r a, kem (variable x) (variable y)) ∷ (rename r b, variable y) ∷ []) (n + 2) ∷ []) (names n) (names (n + 1))) ts

  -- Schemes

  before_renamed : (es : List Pair) (s : Scheme) → rename_scheme r (before es s) ≡ before (rename_pairs r es) (rename_scheme r s)
  before_renamed es s = ap (λ (ps : List Pair). scheme (rename r s.value) ps s.next) (map-append (rename_pair r) s.equations es)

  roots_renamed : (f : Text) (j : Joined) → map (rename_scheme r) (root_schemes name f j) ≡ root_schemes name₂ f (rename_joined j)
  unfolding root_schemes substitute
  roots_renamed f j = ap (λ (ss : List Scheme). stay ∷ ss) (go (rule_named f))
    where
      stay : Scheme
      stay = scheme (apply f (renames r j.values)) (rename_pairs r j.equations) j.next

      go : (o : Option Rule)
          → map (rename_scheme r) (only o λ q. map (before j.equations) (firings name q j.values j.next))
          ≡ only o λ q. map (before (rename_pairs r j.equations)) (firings name₂ q (renames r j.values) j.next)
      go None = refl
      go (Some q) =
          twice_mapped (before j.equations) (before (rename_pairs r j.equations)) (rename_scheme r) (rename_scheme r) (before_renamed j.equations) (firings name q j.values j.next)
          ∙ ap (map (before (rename_pairs r j.equations))) (firings_renamed q j.values j.next)

  first_renamed : (s : Scheme) (j : Joined) → rename_joined (join_first s j) ≡ join_first (rename_scheme r s) (rename_joined j)
  unfolding substitute
  first_renamed s j =
      ap (λ (ps : List Pair). joined_of (more (rename r s.value) (renames r j.values)) ps j.next) (map-append (rename_pair r) s.equations j.equations)
    where
      joined_of : Trees → List Pair → ℕ → Joined
      joined_of ts ps n = record { values = ts; equations = ps; next = n }

  mutual
    unfolding schemes_from substitute

    pub schemes_renamed : (t : Tree) (n : ℕ) → map (rename_scheme r) (schemes_from name t n) ≡ schemes_from name₂ (rename r t) n
    schemes_renamed (variable x) n = refl
    schemes_renamed (atom c d) n = refl
    schemes_renamed (apply f ts) n =
        flat_mapped (root_schemes name f) (root_schemes name₂ f) (rename_scheme r) rename_joined (roots_renamed f) (joined name ts n)
        ∙ ap (flat_map (root_schemes name₂ f)) (joined_renamed ts n)

    joined_renamed : (ts : Trees) (n : ℕ) → map rename_joined (joined name ts n) ≡ joined name₂ (renames r ts) n
    joined_renamed none n = refl
    joined_renamed (more t ts) n =
        flat_mapped (λ s. map (join_first s) (joined name ts s.next)) (λ s. map (join_first s) (joined name₂ (renames r ts) s.next))
        rename_joined (rename_scheme r)
        (λ s. twice_mapped (join_first s) (join_first (rename_scheme r s)) rename_joined rename_joined (first_renamed s) (joined name ts s.next)
        ∙ ap (map (join_first (rename_scheme r s))) (joined_renamed ts s.next))
        (schemes_from name t n)
        ∙ ap (flat_map (λ s. map (join_first s) (joined name₂ (renames r ts) s.next))) (schemes_renamed t n)
