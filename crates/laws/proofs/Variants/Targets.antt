-- The schemes of a tree as reading builds it: their values and equations are such too, and no value is larger than the tree. So the
-- instance of a solved scheme's value is such a tree, and within the limit of nodes.
use Prim.Native.Nat.{ℕ, ◌+◌, ◌≤◌}
use native.Mathlib.Omega.{arith}
use mathlib.Core.Path.{◌≡◌, refl, sym, subst}
use mathlib.Core.Bool.{true, false≢true}
use mathlib.Core.List.{List, [], ◌∷◌, ◌++◌, map, flat_map, Memᴰ}
use Rattle.std.specs.Prelude.{Option, Some, None}
use Rattle.rules.specs.Bytes.{Text, same}
use Rattle.rules.specs.Text.{bytes}
use Rattle.rules.specs.Names.{digit, all, number, word, indexed, variable_token, letter_name}
use Rattle.rules.specs.Decimal.{decimal}
use Rattle.rules.specs.Tree.{Tree, variable, atom, apply, Trees, none, more, size, sizes}
use Rattle.rules.specs.Substitution.{Binding, Pair, instantiate}
use Rattle.rules.specs.Solving.{solved, unify}
use Rattle.rules.specs.declared.Rule.{Rule}
use Rattle.rules.specs.declared.Rule.TheVariants.{Fst, Snd, Flip, Sdec, Kdec}
use Rattle.rules.specs.Reduction.{rule_named, pair, senc, kem, role_a, role_b, arguments1, arguments2}
use Rattle.rules.specs.Variants.{fresh_name, fresh_from, Scheme, Joined, only, fresh, firings, before, root_schemes, join_first, schemes_from, joined, system}
use Rattle.rules.specs.Tidy.{Built, a_variable, a_leaf, a_list, Builts, nil, both}
use Rattle.laws.proofs.Basics.Tests.{and_left, and_right, and_both}
use Rattle.laws.proofs.Basics.Numerals.{decimal_number}
use Rattle.laws.proofs.Reading.TokenKinds.{no_colon}
use Rattle.laws.proofs.Equality.Building.{built_first, built_rest, built_children, Alike, no_more, one_more, builts, rebuilt}
use Rattle.laws.proofs.Solving.Weights.{size_some}
use Rattle.laws.proofs.Sheets.BuiltRun.{BuiltPairs, Writable, instance_built, unify_writable}
use Rattle.laws.proofs.Variants.Waiting.{waits_after, unify_limit}

-- Lists of which every element has a property

module _ {A : Type 0} where
  abbrev pub All : (A → Type 0) → List A → Type 0
  All P [] = Unit {0}
  All P (a ∷ l) = P a × All P l

  pub all_append : (P : A → Type 0) (l r : List A) → All P l → All P r → All P (l ++ r)
  all_append P [] r h k = k
  all_append P (a ∷ l) r h k = (h.0, all_append P l r h.1 k)

  pub all_at : (P : A → Type 0) (l : List A) (a : A) → Memᴰ a l → All P l → P a
  all_at P [] a x'' h = elim x'' [ ]
  all_at P (b ∷ l) a (Memᴰ.head e) h = subst P (sym e) h.0
  all_at P (b ∷ l) a (Memᴰ.tail m) h = all_at P l a m h.1

module _ {A B : Type 0} (P : A → Type 0) (Q : B → Type 0) where
  pub all_map : (f : A → B) → ((a : A) → P a → Q (f a)) → (l : List A) → All P l → All Q (map f l)
  all_map f q [] h = tt
  all_map f q (a ∷ l) h = (q a h.0, all_map f q l h.1)

  pub all_flat : (f : A → List B) → ((a : A) → P a → All Q (f a)) → (l : List A) → All P l → All Q (flat_map f l)
  unfolding flat_map
  all_flat f q [] h = tt
  all_flat f q (a ∷ l) h = all_append Q (f a) (flat_map f l) (q a h.0) (all_flat f q l h.1)

pub pairs_append : (ps qs : List Pair) → BuiltPairs ps → BuiltPairs qs → BuiltPairs (ps ++ qs)
pairs_append [] qs h k = k
pairs_append (p ∷ ps) qs h k = (h.0, h.1, pairs_append ps qs h.2 k)

-- Fresh variables and the terms of the rules

index_sort : (d : Text) → all digit d ≡ true → indexed (d ++ bytes ":Msg") ≡ true
unfolding all indexed
index_sort [] h = refl
index_sort (b ∷ d) h =
    rw (no_colon b (and_left (digit b) (all digit d) h))
    (and_both (digit b) (indexed (d ++ bytes ":Msg")) (and_left (digit b) (all digit d) h) (index_sort d (and_right (digit b) (all digit d) h)))

fresh_token : (d : Text) → number d ≡ true → variable_token (120 ∷ (d ++ bytes ":Msg")) ≡ true
unfolding number variable_token
fresh_token [] h = absurd (false≢true h)
fresh_token (b ∷ d) h = and_both (digit b) (indexed (d ++ bytes ":Msg")) (and_left (digit b) (all digit d) h) (index_sort d (and_right (digit b) (all digit d) h))

-- the fresh names from a base on are variable tokens
pub fresh_tokens : (base n : ℕ) → variable_token (fresh_from base n) ≡ true
unfolding fresh_name
fresh_tokens base n = fresh_token (decimal (base + n)) (decimal_number (base + n))

pair_built : {a b : Tree} → Built a → Built b → Built (pair a b)
unfolding word letter_name same
pair_built p q = a_list refl refl refl p (both q nil)

senc_built : {a b : Tree} → Built a → Built b → Built (senc a b)
unfolding word letter_name same
senc_built p q = a_list refl refl refl p (both q nil)

kem_built : {a b : Tree} → Built a → Built b → Built (kem a b)
unfolding word letter_name same
kem_built p q = a_list refl refl refl p (both (a_list refl refl refl q nil) nil)

role_a_built : Built role_a
unfolding word
role_a_built = a_leaf refl

role_b_built : Built role_b
unfolding word
role_b_built = a_leaf refl

-- Schemes

abbrev Small : Scheme → Type 0
Small s = (size s.value ≤ 1) × Built s.value × BuiltPairs s.equations

abbrev pub Good : Tree → Scheme → Type 0
Good t s = (size s.value ≤ size t) × Built s.value × BuiltPairs s.equations

abbrev GoodJoined : Trees → Joined → Type 0
GoodJoined ts j = (sizes j.values ≤ sizes ts) × Alike ts j.values × BuiltPairs j.equations

-- what a rule makes of one child, and of two
module _ (P : Scheme → Type 0) where
  pub one_all : (f : Tree → List Scheme) (us : Trees) → ((a : Tree) → us ≡ more a none → All P (f a)) → All P (only (arguments1 us) f)
  one_all f none h = tt
  one_all f (more a none) h = h a refl
  one_all f (more a (more c us)) h = tt

  pub two_all : (f : Tree × Tree → List Scheme) (us : Trees) → ((a c : Tree) → us ≡ more a (more c none) → All P (f (a, c))) → All P (only (arguments2 us) f)
  two_all f none h = tt
  two_all f (more a none) h = tt
  two_all f (more a (more c none)) h = h a c refl
  two_all f (more a (more c (more d us))) h = tt

one_small : (f : Tree → List Scheme) → ((a : Tree) → Built a → All Small (f a)) → (us : Trees) → Builts us → All Small (only (arguments1 us) f)
one_small f h us b = one_all Small f us (λ a e. h a (built_first (subst Builts e b)))

two_small : (f : Tree × Tree → List Scheme) → ((a c : Tree) → Built a → Built c → All Small (f (a, c))) → (us : Trees) → Builts us → All Small (only (arguments2 us) f)
two_small f h us b = two_all Small f us (λ a c e. let k = subst Builts e b in h a c (built_first k) (built_first (built_rest k)))

variable_size : (x : Text) → size (variable x) ≤ 1
unfolding size
variable_size x = omega arith

role_size : (f : Text) → size (apply f none) ≤ 1
unfolding size
role_size f = omega arith

before_good : (t : Tree) (es : List Pair) → BuiltPairs es → (s : Scheme) → Small s → Good t (before es s)
before_good t es k s h = let l = h.0 in (omega (arith, size_some t), h.1, pairs_append s.equations es h.2 k)

first_good : (t : Tree) (ts : Trees) (s : Scheme) → Good t s → (j : Joined) → GoodJoined ts j → GoodJoined (more t ts) (join_first s j)
unfolding size
first_good t ts s g j h = (let l = g.0 in let k = h.0 in omega arith, one_more g.1 h.1, pairs_append s.equations j.equations g.2 h.2)

-- by names that are variable tokens
module _ (name : ℕ → Text) (tokens : (n : ℕ) → variable_token (name n) ≡ true) where
  fresh_built : (n : ℕ) → Built (fresh name n)
  fresh_built n = a_variable (tokens n)

  firings_small : (r : Rule) (us : Trees) (n : ℕ) → Builts us → All Small (firings name r us n)
  unfolding firings
  firings_small Fst us n b = one_small _ (λ a p. ((variable_size _, fresh_built n, (p, pair_built (fresh_built n) (fresh_built (n + 1)), tt)), tt)) us b
  firings_small Snd us n b = one_small _ (λ a p. ((variable_size _, fresh_built (n + 1), (p, pair_built (fresh_built n) (fresh_built (n + 1)), tt)), tt)) us b
  firings_small Flip us n b =
      one_small _ (λ a p. ((role_size (bytes "tamXCroleB"), role_b_built, (p, role_a_built, tt)), ((role_size (bytes "tamXCroleA"), role_a_built, (p, role_b_built, tt)), tt))) us b
  firings_small Sdec us n b =
      two_small _ (λ a c p q. ((variable_size _, fresh_built n, (p, senc_built (fresh_built n) (fresh_built (n + 1)), (q, fresh_built (n + 1), tt))), tt)) us b
  firings_small Kdec us n b =
      two_small _ (λ a c p q. ((variable_size _, fresh_built n, (p, kem_built (fresh_built n) (fresh_built (n + 1)), (q, fresh_built (n + 1), tt))), tt)) us b

  root_good : (f : Text) (ts : Trees) (j : Joined) → Built (apply f ts) → GoodJoined ts j → All (Good (apply f ts)) (root_schemes name f j)
  unfolding root_schemes size
  root_good f ts j b h = ((let l = h.0 in omega arith, rebuilt b h.1, h.2), go (rule_named f))
    where
      go : (o : Option Rule) → All (Good (apply f ts)) (only o (λ r. map (before j.equations) (firings name r j.values j.next)))
      go None = tt
      go (Some r) =
          all_map Small (Good (apply f ts)) (before j.equations) (before_good (apply f ts) j.equations h.2) (firings name r j.values j.next)
          (firings_small r j.values j.next (builts h.1))

  mutual
    unfolding schemes_from

    pub schemes_good : (t : Tree) (n : ℕ) → Built t → All (Good t) (schemes_from name t n)
    schemes_good (variable x) n b = ((omega arith, b, tt), tt)
    schemes_good (atom c d) n b = ((omega arith, b, tt), tt)
    schemes_good (apply f ts) n b = all_flat (GoodJoined ts) (Good (apply f ts)) (root_schemes name f) (λ j h. root_good f ts j b h) (joined name ts n) (joined_good ts n (built_children b))

    joined_good : (ts : Trees) (n : ℕ) → Builts ts → All (GoodJoined ts) (joined name ts n)
    joined_good none n b = ((omega arith, no_more, tt), tt)
    joined_good (more t ts) n b =
        all_flat (Good t) (GoodJoined (more t ts)) (λ s. map (join_first s) (joined name ts s.next))
        (λ s g. all_map (GoodJoined ts) (GoodJoined (more t ts)) (join_first s) (first_good t ts s g) (joined name ts s.next) (joined_good ts s.next (built_rest b)))
        (schemes_from name t n) (schemes_good t n (built_first b))

  -- Solved schemes

  module _ (term : Tree) (built : Built term) (small : size term ≤ 4096) (n : ℕ) (s : Scheme) (listed : Memᴰ s (schemes_from name term n)) where
    abbrev good : Good term s
    good = all_at (Good term) (schemes_from name term n) s listed (schemes_good term n built)

    pub system_built : BuiltPairs (system term s)
    system_built = pairs_append s.equations ((term, term) ∷ (s.value, s.value) ∷ []) good.2 (built, built, (good.1, good.1, tt))

    pub target_built : (k : ℕ) (bs : List Binding) → (unify k (system term s)).0 ≡ solved bs → Built (instantiate bs s.value)
    target_built k bs e = instance_built bs (subst Writable e (unify_writable k (system term s) system_built)).0 good.1

    -- the value waits beside itself during every binding
    pub target_within : (k : ℕ) (bs : List Binding) → (unify k (system term s)).0 ≡ solved bs → size (instantiate bs s.value) ≤ 4096
    target_within k bs e =
        unify_limit k (system term s) s.value (waits_after s.value s.equations (term, term)) (let h = good.0 in omega arith) bs e
