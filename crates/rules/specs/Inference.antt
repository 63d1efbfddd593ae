-- The rules of inference for unification (Baader and Snyder, Unification Theory, in the Handbook of Automated Reasoning), under
-- their names, with the rules of 01 for sorts, sums and the limit of nodes: what a pair taken gives, before the pairs that wait;
-- and what it is for a rule to keep the unifiers (01, "Solving").
use Rattle.std.specs.Prelude.{◌≡◌, true, false, List, [], ◌∷◌, ◌↔◌, ◌⊎◌, ℕ, ◌≤◌, ◌<◌, Some, None}
use Rattle.rules.specs.Bytes.{Text}
use Rattle.rules.specs.Tree.{Tree, variable, atom, apply, Trees, none, more, atom_text, tamtplus}
use Rattle.rules.specs.Substitution.{Substitution, substitute, Pair, instantiate_pairs, size_pairs}
use Rattle.rules.specs.Sums.{summands, rebuild}
use Rattle.rules.specs.Equality.{Ac}
use Rattle.rules.specs.declared.Sort.{Sort}
use Rattle.rules.specs.declared.Sort.TheVariants.{TamNat}
use Rattle.rules.specs.Sorts.{variable_sort, natural, sorted, refinable}
use Rattle.rules.specs.Solving.{Step, goes_on, bind, fails, unknown}
use Rattle.rules.specs.Meaning.{WellSorted, Unifier, Free}

-- Applications: an atom is one without arguments, named by its text

pub data Applies : Tree → Text → Trees → Type 0 where
  of_atom : {c : ℕ} {d : Text} → Applies (atom c d) (atom_text c d) none
  of_apply : {f : Text} {ts : Trees} → Applies (apply f ts) f ts

-- the children pairwise, as far as both go, first child next, and then the waiting pairs
pub data Pairwise : Trees → Trees → List Pair → List Pair → Type 0 where
  left_ends : {us : Trees} {ps : List Pair} → Pairwise none us ps ps
  right_ends : {t : Tree} {ts : Trees} {ps : List Pair} → Pairwise (more t ts) none ps ps
  both_go_on : {t u : Tree} {ts us : Trees} {ps qs : List Pair} → Pairwise ts us ps qs → Pairwise (more t ts) (more u us) ps ((t, u) ∷ qs)

-- Sums

-- t takes out the first tree that is Ac equal to it
pub data Removes : Tree → List Tree → List Tree → Type 0 where
  first : {t u : Tree} {us : List Tree} → Ac t u → Removes t (u ∷ us) us
  later : {t u : Tree} {us vs : List Tree} → ¬ Ac t u → Removes t us vs → Removes t (u ∷ us) (u ∷ vs)

-- no tree is Ac equal to t
abbrev pub Without : Tree → List Tree → Type 0
Without t [] = Unit {0}
Without t (u ∷ us) = ¬ Ac t u × Without t us

-- two lists of summands, and what is left of them when each on the left has taken out its partner on the right
pub data Cancels : List Tree → List Tree → List Tree → List Tree → Type 0 where
  done : {us : List Tree} → Cancels [] us [] us
  paired : {t : Tree} {ts us vs ks os : List Tree} → Removes t us vs → Cancels ts vs ks os → Cancels (t ∷ ts) us ks os
  single : {t : Tree} {ts us ks os : List Tree} → Without t us → Cancels ts us ks os → Cancels (t ∷ ts) us (t ∷ ks) os

-- two different sums, of which cancelling leaves ks and os
pub data SumsLeave (l r : Tree) (ks os : List Tree) : Type 0 where
  sums : {ts us : Trees} → Applies l tamtplus ts → Applies r tamtplus us → ¬ (l ≡ r) → Cancels (summands l) (summands r) ks os → SumsLeave l r ks os

-- one side is always natural and the other can never be
abbrev pub NeverEqual : Tree → Tree → Type 0
NeverEqual l r = ((natural l ≡ true) × (refinable TamNat r ≡ false)) ⊎ ((natural r ≡ true) × (refinable TamNat l ≡ false))

-- Keys

-- x has the sort s, and does not occur in v
pub record Key (x : Text) (s : Sort) (v : Tree) : Type 0 where
  pub sort : variable_sort x ≡ Some s
  pub apart : Free x v

-- the tree is a variable, and x has its sort: it may be the key
abbrev pub Orientable : Text → Tree → Type 0
Orientable x (variable y) = (r : Sort) × (variable_sort y ≡ Some r) × (sorted r (variable x) ≡ true)
Orientable x (atom c d) = ⊥
Orientable x (apply f ts) = ⊥

-- the binding put into the waiting pairs
abbrev pub put : Text → Tree → List Pair → List Pair
put x v ps = instantiate_pairs ((x, v) ∷ []) ps

-- The rules: l against r is taken and ps wait. Baader and Snyder's are `trivial`, `symbol_clash`, `decomposition`, `occurs_check`,
-- `variable_elimination` and `orient`; the others are document 01's.

pub data Infers : Tree → Tree → List Pair → Step → Type 0 where
  trivial : {t : Tree} {ps : List Pair} → Infers t t ps (goes_on ps)
  -- two applications
  symbol_clash : {l r : Tree} {f g : Text} {ts us : Trees} {ps : List Pair} → Applies l f ts → Applies r g us → ¬ (f ≡ g) → Infers l r ps fails
  decomposition : {l r : Tree} {f : Text} {ts us : Trees} {ps qs : List Pair} → Applies l f ts → Applies r f us → ¬ (f ≡ tamtplus) → ¬ (l ≡ r)
      → Pairwise ts us ps qs → Infers l r ps (goes_on qs)
  -- two sums
  nothing_left : {l r : Tree} {ps : List Pair} → SumsLeave l r [] [] → Infers l r ps (goes_on ps)
  left_used_up : {l r o : Tree} {os : List Tree} {ps : List Pair} → SumsLeave l r [] (o ∷ os) → Infers l r ps fails
  right_used_up : {l r k : Tree} {ks : List Tree} {ps : List Pair} → SumsLeave l r (k ∷ ks) [] → Infers l r ps fails
  one_on_left : {l r k o : Tree} {os : List Tree} {ps : List Pair} → SumsLeave l r (k ∷ []) (o ∷ os) → Infers l r ps (goes_on ((k, rebuild o os) ∷ ps))
  one_on_right : {l r k j o : Tree} {ks : List Tree} {ps : List Pair} → SumsLeave l r (k ∷ j ∷ ks) (o ∷ [])
      → Infers l r ps (goes_on ((rebuild k (j ∷ ks), o) ∷ ps))
  natural_clash : {l r k j o p : Tree} {ks os : List Tree} {ps : List Pair} → SumsLeave l r (k ∷ j ∷ ks) (o ∷ p ∷ os) → NeverEqual l r → Infers l r ps fails
  several_left : {l r k j o p : Tree} {ks os : List Tree} {ps : List Pair} → SumsLeave l r (k ∷ j ∷ ks) (o ∷ p ∷ os) → ¬ NeverEqual l r → Infers l r ps unknown
  -- a variable x and another tree
  unknown_sort : {x : Text} {v : Tree} {ps : List Pair} → variable_sort x ≡ None → ¬ (variable x ≡ v) → Infers (variable x) v ps unknown
  occurs_check : {x : Text} {s : Sort} {v : Tree} {ps : List Pair} → variable_sort x ≡ Some s → ¬ (variable x ≡ v) → ¬ Free x v → Infers (variable x) v ps fails
  variable_elimination : {x : Text} {s : Sort} {v : Tree} {ps : List Pair} → Key x s v → sorted s v ≡ true → size_pairs (put x v ps) ≤ 4096
      → Infers (variable x) v ps (bind x v (put x v ps))
  over_limit : {x : Text} {s : Sort} {v : Tree} {ps : List Pair} → Key x s v → sorted s v ≡ true → 4096 < size_pairs (put x v ps) → Infers (variable x) v ps unknown
  orient : {x f : Text} {t : Tree} {ts : Trees} {ps : List Pair} {a : Step} → Applies t f ts → Infers (variable x) t ps a → Infers t (variable x) ps a
  orient_variables : {x y : Text} {s : Sort} {ps : List Pair} {a : Step} → Key x s (variable y) → sorted s (variable y) ≡ false → Orientable x (variable y)
      → Infers (variable y) (variable x) ps a → Infers (variable x) (variable y) ps a
  sort_clash : {x : Text} {s : Sort} {v : Tree} {ps : List Pair} → Key x s v → sorted s v ≡ false → ¬ Orientable x v → refinable s v ≡ false → Infers (variable x) v ps fails
  sort_undecided : {x : Text} {s : Sort} {v : Tree} {ps : List Pair} → Key x s v → sorted s v ≡ false → ¬ Orientable x v → refinable s v ≡ true
      → Infers (variable x) v ps unknown

-- What a step keeps: the well-sorted unifiers of the pair taken and the waiting pairs are those of what is left to solve; where it
-- fails there are none

abbrev pub Keeps : (Text → ℕ) → Tree → Tree → List Pair → Step → Type 0
Keeps arity l r ps (goes_on qs) = (σ : Substitution) → WellSorted arity σ → Unifier σ ((l, r) ∷ ps) ↔ Unifier σ qs
Keeps arity l r ps (bind x v qs) = (σ : Substitution) → WellSorted arity σ → Unifier σ ((l, r) ∷ ps) ↔ (Ac (σ x) (substitute σ v) × Unifier σ qs)
Keeps arity l r ps fails = (σ : Substitution) → WellSorted arity σ → Unifier σ ((l, r) ∷ ps) → ⊥
Keeps arity l r ps unknown = Unit {0}
