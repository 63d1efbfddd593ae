-- Derivations: the rules of matching, one constructor a rule; the rules of unify and of match chained one pair at a time, from the
-- sheet's pairs to the verdict, the bindings and the count of pairs taken; the composition of unify's bindings (01, "Solving", and
-- `spent` of "The answer goes out"). The rules of unify are in `Inference`.
use Rattle.std.specs.Prelude.{◌≡◌, true, false, List, [], ◌∷◌, ◌↔◌, ℕ, zero, suc, ◌≤◌, ◌<◌, Some, None}
use Rattle.rules.specs.Bytes.{Text}
use Rattle.rules.specs.Tree.{Tree, variable, Trees, none, size, ground, tamtplus}
use Rattle.rules.specs.Substitution.{Substitution, Binding, Pair, instantiate}
use Rattle.rules.specs.Sums.{summands, rebuild}
use Rattle.rules.specs.Equality.{Ac}
use Rattle.rules.specs.declared.Sort.{Sort}
use Rattle.rules.specs.Sorts.{variable_sort, sorted}
use Rattle.rules.specs.Solving.{goes_on, bind, fails, unknown, Verdict, solved, failed, unsupported}
use Rattle.rules.specs.Matching.{Move, onward, clash, beyond}
use Rattle.rules.specs.Tidy.{Tidy}
use Rattle.rules.specs.Meaning.{WellSorted, Matcher, NoKey}
use Rattle.rules.specs.Inference.{Applies, Pairwise, Removes, Without, Infers}

-- Subjects and bindings of match

-- a subject variable is a constant, named by its token
pub data Subject : Tree → Text → Trees → Type 0 where
  of_variable : {x : Text} → Subject (variable x) x none
  of_application : {t : Tree} {f : Text} {ts : Trees} → Applies t f ts → Subject t f ts

-- the pattern variable is already bound to v
pub data Bound : Text → Tree → List Binding → Type 0 where
  newest : {x : Text} {v : Tree} {bs : List Binding} → Bound x v ((x, v) ∷ bs)
  older : {x y : Text} {v w : Tree} {bs : List Binding} → ¬ (y ≡ x) → Bound x v bs → Bound x v ((y, w) ∷ bs)

-- Sums of match

-- pattern summands and subject summands, and what is left of them: only pattern summands without variables cancel
pub data GroundCancels : List Tree → List Tree → List Tree → List Tree → Type 0 where
  done : {us : List Tree} → GroundCancels [] us [] us
  paired : {t : Tree} {ts us vs ks os : List Tree} → ground t ≡ true → Removes t us vs → GroundCancels ts vs ks os → GroundCancels (t ∷ ts) us ks os
  single : {t : Tree} {ts us ks os : List Tree} → ground t ≡ true → Without t us → GroundCancels ts us ks os → GroundCancels (t ∷ ts) us (t ∷ ks) os
  variable_held : {t : Tree} {ts us ks os : List Tree} → ground t ≡ false → GroundCancels ts us ks os → GroundCancels (t ∷ ts) us (t ∷ ks) os

-- a pattern and a subject that are sums, of which cancelling leaves ks and os
pub data PatternLeaves (t u : Tree) (ks os : List Tree) : Type 0 where
  sums : {ts us : Trees} → Applies t tamtplus ts → Subject u tamtplus us → GroundCancels (summands t) (summands u) ks os → PatternLeaves t u ks os

-- The rules of match: the pattern t against the subject u is taken, ps wait and bs are bound, the newest first

pub data Matches : Tree → Tree → List Pair → List Binding → Move → Type 0 where
  -- a pattern variable already bound is compared Ac
  bound_equal : {x : Text} {v u : Tree} {ps : List Pair} {bs : List Binding} → Bound x v bs → Ac v u → Matches (variable x) u ps bs (onward ps bs)
  bound_different : {x : Text} {v u : Tree} {ps : List Pair} {bs : List Binding} → Bound x v bs → ¬ Ac v u → Matches (variable x) u ps bs clash
  -- another is bound to a subject of its sort, else fails
  binds : {x : Text} {s : Sort} {u : Tree} {ps : List Pair} {bs : List Binding} → NoKey x bs → variable_sort x ≡ Some s → sorted s u ≡ true
      → Matches (variable x) u ps bs (onward ps ((x, u) ∷ bs))
  sort_clash : {x : Text} {s : Sort} {u : Tree} {ps : List Pair} {bs : List Binding} → NoKey x bs → variable_sort x ≡ Some s → sorted s u ≡ false
      → Matches (variable x) u ps bs clash
  unknown_sort : {x : Text} {u : Tree} {ps : List Pair} {bs : List Binding} → NoKey x bs → variable_sort x ≡ None → Matches (variable x) u ps bs clash
  -- an application
  symbol_clash : {t u : Tree} {f g : Text} {ts us : Trees} {ps : List Pair} {bs : List Binding} → Applies t f ts → Subject u g us → ¬ (f ≡ g)
      → Matches t u ps bs clash
  decomposition : {t u : Tree} {f : Text} {ts us : Trees} {ps qs : List Pair} {bs : List Binding} → Applies t f ts → Subject u f us → ¬ (f ≡ tamtplus)
      → Pairwise ts us ps qs → Matches t u ps bs (onward qs bs)
  -- two sums
  nothing_left : {t u : Tree} {ps : List Pair} {bs : List Binding} → PatternLeaves t u [] [] → Matches t u ps bs (onward ps bs)
  pattern_used_up : {t u o : Tree} {os : List Tree} {ps : List Pair} {bs : List Binding} → PatternLeaves t u [] (o ∷ os) → Matches t u ps bs clash
  subject_used_up : {t u k : Tree} {ks : List Tree} {ps : List Pair} {bs : List Binding} → PatternLeaves t u (k ∷ ks) [] → Matches t u ps bs clash
  one_in_pattern : {t u k o : Tree} {os : List Tree} {ps : List Pair} {bs : List Binding} → PatternLeaves t u (k ∷ []) (o ∷ os)
      → Matches t u ps bs (onward ((k, rebuild o os) ∷ ps) bs)
  several_in_pattern : {t u k j o : Tree} {ks os : List Tree} {ps : List Pair} {bs : List Binding} → PatternLeaves t u (k ∷ j ∷ ks) (o ∷ os)
      → Matches t u ps bs beyond

-- What a rule of match keeps: the well-sorted matchers of the pair taken and the waiting pairs that agree with the bindings are those of
-- what is left; where it fails there are none

-- the value has the key's sort, and is tidy
pub record GoodBinding (arity : Text → ℕ) (x : Text) (v : Tree) : Type 0 where
  pub key_sort : Sort
  pub key_has : variable_sort x ≡ Some key_sort
  pub value_has : sorted key_sort v ≡ true
  pub tidy : Tidy arity v

abbrev pub GoodBindings : (Text → ℕ) → List Binding → Type 0
GoodBindings arity [] = Unit {0}
GoodBindings arity (b ∷ bs) = GoodBinding arity b.0 b.1 × GoodBindings arity bs

-- the substitution gives each key its value
abbrev pub Agrees : Substitution → List Binding → Type 0
Agrees σ [] = Unit {0}
Agrees σ (b ∷ bs) = Ac (σ b.0) b.1 × Agrees σ bs

abbrev pub KeepsMatchers : (Text → ℕ) → Tree → Tree → List Pair → List Binding → Move → Type 0
KeepsMatchers arity t u ps bs (onward qs cs) = (σ : Substitution) → WellSorted arity σ → (Matcher σ ((t, u) ∷ ps) × Agrees σ bs) ↔ (Matcher σ qs × Agrees σ cs)
KeepsMatchers arity t u ps bs clash = (σ : Substitution) → WellSorted arity σ → Matcher σ ((t, u) ∷ ps) → Agrees σ bs → ⊥
KeepsMatchers arity t u ps bs beyond = Unit {0}

-- Derivations

-- how a run ends: the stack is empty with fuel left, a pair fails, the rules do not settle a pair, or as many pairs as fuel are taken
pub data Ending : Type 0 where
  emptied pair_fails pair_unknown fuel_used_up : Ending

-- unify: fuel and the stack, how the run ends, the bindings in the order in which they were made, the number of pairs taken
pub data Derives : ℕ → List Pair → Ending → List Binding → ℕ → Type 0 where
  no_fuel : {ps : List Pair} → Derives zero ps fuel_used_up [] 0
  no_pairs : {fuel : ℕ} → Derives (suc fuel) [] emptied [] 0
  failing : {fuel : ℕ} {l r : Tree} {ps : List Pair} → Infers l r ps fails → Derives (suc fuel) ((l, r) ∷ ps) pair_fails [] 1
  unsettled : {fuel : ℕ} {l r : Tree} {ps : List Pair} → Infers l r ps unknown → Derives (suc fuel) ((l, r) ∷ ps) pair_unknown [] 1
  going_on : {fuel n : ℕ} {l r : Tree} {ps qs : List Pair} {e : Ending} {bs : List Binding} → Infers l r ps (goes_on qs) → Derives fuel qs e bs n
      → Derives (suc fuel) ((l, r) ∷ ps) e bs (suc n)
  binding : {fuel n : ℕ} {l r v : Tree} {x : Text} {ps qs : List Pair} {e : Ending} {bs : List Binding} → Infers l r ps (bind x v qs) → Derives fuel qs e bs n
      → Derives (suc fuel) ((l, r) ∷ ps) e ((x, v) ∷ bs) (suc n)

-- match: fuel, the stack and the bindings before, how the run ends, the bindings after, the newest first, the number of pairs taken
pub data MatchDerives : ℕ → List Pair → List Binding → Ending → List Binding → ℕ → Type 0 where
  no_fuel : {ps : List Pair} {bs : List Binding} → MatchDerives zero ps bs fuel_used_up bs 0
  no_pairs : {fuel : ℕ} {bs : List Binding} → MatchDerives (suc fuel) [] bs emptied bs 0
  failing : {fuel : ℕ} {t u : Tree} {ps : List Pair} {bs : List Binding} → Matches t u ps bs clash → MatchDerives (suc fuel) ((t, u) ∷ ps) bs pair_fails bs 1
  unsettled : {fuel : ℕ} {t u : Tree} {ps : List Pair} {bs : List Binding} → Matches t u ps bs beyond → MatchDerives (suc fuel) ((t, u) ∷ ps) bs pair_unknown bs 1
  going_on : {fuel n : ℕ} {t u : Tree} {ps qs : List Pair} {e : Ending} {bs cs ds : List Binding} → Matches t u ps bs (onward qs cs)
      → MatchDerives fuel qs cs e ds n → MatchDerives (suc fuel) ((t, u) ∷ ps) bs e ds (suc n)

-- Composition

-- the bindings put in, one after the other
unfoldable pub put_in : List Binding → Tree → Tree
put_in [] t = t
put_in (b ∷ bs) t = put_in bs (instantiate (b ∷ []) t)

-- into each value the later bindings are put, 4,096 nodes each
pub data Composes : List Binding → List Binding → Type 0 where
  nil : Composes [] []
  next : {x : Text} {v w : Tree} {bs cs : List Binding} → put_in bs v ≡ w → size w ≤ 4096 → Composes bs cs → Composes ((x, v) ∷ bs) ((x, w) ∷ cs)

-- a value grows beyond
pub data Outgrows : List Binding → Type 0 where
  here : {x : Text} {v : Tree} {bs : List Binding} → 4096 < size (put_in bs v) → Outgrows ((x, v) ∷ bs)
  later : {b : Binding} {bs : List Binding} → Outgrows bs → Outgrows (b ∷ bs)

-- The answer: the verdict, and the number of pairs taken

pub data UnifyDerives (fuel : ℕ) (ps : List Pair) : Verdict → ℕ → Type 0 where
  composed : {bs cs : List Binding} {n : ℕ} → Derives fuel ps emptied bs n → Composes bs cs → UnifyDerives fuel ps (solved cs) n
  outgrown : {bs : List Binding} {n : ℕ} → Derives fuel ps emptied bs n → Outgrows bs → UnifyDerives fuel ps unsupported n
  by_failing : {bs : List Binding} {n : ℕ} → Derives fuel ps pair_fails bs n → UnifyDerives fuel ps failed n
  by_unknown : {bs : List Binding} {n : ℕ} → Derives fuel ps pair_unknown bs n → UnifyDerives fuel ps unsupported n
  by_fuel : {bs : List Binding} {n : ℕ} → Derives fuel ps fuel_used_up bs n → UnifyDerives fuel ps unsupported n

pub data MatcherDerives (fuel : ℕ) (ps : List Pair) : Verdict → ℕ → Type 0 where
  as_bound : {bs : List Binding} {n : ℕ} → MatchDerives fuel ps [] emptied bs n → MatcherDerives fuel ps (solved bs) n
  by_failing : {bs : List Binding} {n : ℕ} → MatchDerives fuel ps [] pair_fails bs n → MatcherDerives fuel ps failed n
  by_unknown : {bs : List Binding} {n : ℕ} → MatchDerives fuel ps [] pair_unknown bs n → MatcherDerives fuel ps unsupported n
  by_fuel : {bs : List Binding} {n : ℕ} → MatchDerives fuel ps [] fuel_used_up bs n → MatcherDerives fuel ps unsupported n
