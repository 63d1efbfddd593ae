-- Where variables do not occur, and what substitutions do to trees: twice in a row, on trees without a variable, on Ac equal
-- trees.
use mathlib.Core.Path.{◌≡◌, refl, ap, ap₂}
use mathlib.Core.Bool.{true, false, false≢true}
use mathlib.Core.List.{List, [], ◌∷◌}
use Rattle.rules.specs.Bytes.{Text}
use Rattle.rules.specs.Tree.{Tree, variable, atom, apply, Trees, none, more, occurs, occurs_in, ground, grounds}
use Rattle.rules.specs.Substitution.{Substitution, substitute, substitutes, Pair}
use Rattle.rules.specs.Equality.{Ac, reflexive, symmetric, transitive, congruent, swap, regroup, ACs, nil, both}
use Rattle.rules.specs.Meaning.{Free, Frees}
use Rattle.laws.proofs.Basics.Tests.{differ_of_ne, ne_of_differ, neither, neither_left, neither_right, and_left, and_right}

-- a variable that passes no occurs check is free
module _ (y : Text) where
  mutual
    unfolding occurs

    pub free_of : (t : Tree) → occurs y t ≡ false → Free y t
    free_of (variable x) e = ne_of_differ e
    free_of (atom c d) e = tt
    free_of (apply f ts) e = frees_of ts e

    frees_of : (ts : Trees) → occurs_in y ts ≡ false → Frees y ts
    frees_of none e = tt
    frees_of (more t ts) e = (free_of t (neither_left (occurs y t) (occurs_in y ts) e), frees_of ts (neither_right (occurs y t) (occurs_in y ts) e))

-- and the other way round
module _ (y : Text) where
  mutual
    unfolding occurs

    pub free_occurs : (t : Tree) → Free y t → occurs y t ≡ false
    free_occurs (variable x) d = differ_of_ne d
    free_occurs (atom c n) d = refl
    free_occurs (apply f ts) d = frees_occur ts d

    frees_occur : (ts : Trees) → Frees y ts → occurs_in y ts ≡ false
    frees_occur none d = refl
    frees_occur (more t ts) d = neither (occurs y t) (occurs_in y ts) (free_occurs t d.0) (frees_occur ts d.1)

-- the variable is in no pair
abbrev pub FreePairs : Text → List Pair → Type 0
FreePairs y [] = Unit {0}
FreePairs y (p ∷ ps) = Free y p.0 × Free y p.1 × FreePairs y ps

module _ (σ τ : Substitution) where
  mutual
    unfolding substitute

    pub substitute_twice : (t : Tree) → substitute σ (substitute τ t) ≡ substitute (λ x. substitute σ (τ x)) t
    substitute_twice (variable x) = refl
    substitute_twice (atom c d) = refl
    substitute_twice (apply f ts) = ap (apply f) (substitutes_twice ts)

    substitutes_twice : (ts : Trees) → substitutes σ (substitutes τ ts) ≡ substitutes (λ x. substitute σ (τ x)) ts
    substitutes_twice none = refl
    substitutes_twice (more t ts) = ap₂ more (substitute_twice t) (substitutes_twice ts)

-- substitutions that agree but at y agree on a tree without y
module _ (y : Text) (σ τ : Substitution) (h : (x : Text) → (x ≡ y → ⊥) → σ x ≡ τ x) where
  mutual
    unfolding substitute

    pub substitute_off : (t : Tree) → Free y t → substitute σ t ≡ substitute τ t
    substitute_off (variable x) d = h x d
    substitute_off (atom c n) d = refl
    substitute_off (apply f ts) d = ap (apply f) (substitutes_off ts d)

    substitutes_off : (ts : Trees) → Frees y ts → substitutes σ ts ≡ substitutes τ ts
    substitutes_off none d = refl
    substitutes_off (more t ts) d = ap₂ more (substitute_off t d.0) (substitutes_off ts d.1)

-- the substitution that changes nothing
module _ (σ : Substitution) (h : (x : Text) → σ x ≡ variable x) where
  mutual
    unfolding substitute

    pub substitute_nothing : (t : Tree) → substitute σ t ≡ t
    substitute_nothing (variable x) = h x
    substitute_nothing (atom c d) = refl
    substitute_nothing (apply f ts) = ap (apply f) (substitutes_nothing ts)

    substitutes_nothing : (ts : Trees) → substitutes σ ts ≡ ts
    substitutes_nothing none = refl
    substitutes_nothing (more t ts) = ap₂ more (substitute_nothing t) (substitutes_nothing ts)

-- a ground tree stays itself, and no variable occurs in it
module _ (σ : Substitution) where
  mutual
    unfolding substitute ground

    pub substitute_ground : (t : Tree) → ground t ≡ true → substitute σ t ≡ t
    substitute_ground (variable x) e = absurd (false≢true e)
    substitute_ground (atom c d) e = refl
    substitute_ground (apply f ts) e = ap (apply f) (substitutes_ground ts e)

    substitutes_ground : (ts : Trees) → grounds ts ≡ true → substitutes σ ts ≡ ts
    substitutes_ground none e = refl
    substitutes_ground (more t ts) e =
        ap₂ more (substitute_ground t (and_left (ground t) (grounds ts) e)) (substitutes_ground ts (and_right (ground t) (grounds ts) e))

module _ (y : Text) where
  mutual
    unfolding ground

    pub ground_free : (t : Tree) → ground t ≡ true → Free y t
    ground_free (variable x) e = absurd (false≢true e)
    ground_free (atom c d) e = tt
    ground_free (apply f ts) e = grounds_free ts e

    grounds_free : (ts : Trees) → grounds ts ≡ true → Frees y ts
    grounds_free none e = tt
    grounds_free (more t ts) e = (ground_free t (and_left (ground t) (grounds ts) e), grounds_free ts (and_right (ground t) (grounds ts) e))

-- a variable in no value of the substitution is in no instance
module _ (y : Text) (τ : Substitution) (h : (x : Text) → Free y (τ x)) where
  mutual
    unfolding substitute

    pub substitute_free : (t : Tree) → Free y (substitute τ t)
    substitute_free (variable x) = h x
    substitute_free (atom c d) = tt
    substitute_free (apply f ts) = substitutes_free ts

    substitutes_free : (ts : Trees) → Frees y (substitutes τ ts)
    substitutes_free none = tt
    substitutes_free (more t ts) = (substitute_free t, substitutes_free ts)

-- a variable in no value but its own is in no instance of a tree without it
module _ (y : Text) (τ : Substitution) (h : (x : Text) → (x ≡ y → ⊥) → Free y (τ x)) where
  mutual
    unfolding substitute

    pub substitute_stays_free : (t : Tree) → Free y t → Free y (substitute τ t)
    substitute_stays_free (variable x) d = h x d
    substitute_stays_free (atom c n) d = tt
    substitute_stays_free (apply f ts) d = substitutes_stay_free ts d

    substitutes_stay_free : (ts : Trees) → Frees y ts → Frees y (substitutes τ ts)
    substitutes_stay_free none d = tt
    substitutes_stay_free (more t ts) d = (substitute_stays_free t d.0, substitutes_stay_free ts d.1)

-- substitutions with Ac equal values give Ac equal instances
module _ (σ τ : Substitution) (h : (x : Text) → Ac (σ x) (τ x)) where
  mutual
    unfolding substitute

    pub substitute_ac : (t : Tree) → Ac (substitute σ t) (substitute τ t)
    substitute_ac (variable x) = h x
    substitute_ac (atom c d) = reflexive
    substitute_ac (apply f ts) = congruent (substitutes_ac ts)

    substitutes_ac : (ts : Trees) → ACs (substitutes σ ts) (substitutes τ ts)
    substitutes_ac none = nil
    substitutes_ac (more t ts) = both (substitute_ac t) (substitutes_ac ts)

-- Ac equal trees have Ac equal instances
module _ (σ : Substitution) where
  mutual
    unfolding substitute

    pub ac_substitute : {t u : Tree} → Ac t u → Ac (substitute σ t) (substitute σ u)
    ac_substitute reflexive = reflexive
    ac_substitute (symmetric h) = symmetric (ac_substitute h)
    ac_substitute (transitive h k) = transitive (ac_substitute h) (ac_substitute k)
    ac_substitute (congruent h) = congruent (acs_substitute h)
    ac_substitute swap = swap
    ac_substitute regroup = regroup

    acs_substitute : {ts us : Trees} → ACs ts us → ACs (substitutes σ ts) (substitutes σ us)
    acs_substitute nil = nil
    acs_substitute (both h k) = both (ac_substitute h) (acs_substitute k)
