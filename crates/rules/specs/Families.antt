-- What the answers of `sound`, `cover` and `complete` mean (01, "The answer goes out", "Solving", the last paragraph, and "Reduction
-- and variants").
use Rattle.std.specs.Prelude.{◌≡◌, Bool, true, false, ℕ, ◌≤◌, ◌<◌, Option, Some, None}
use mathlib.Core.List.{List, [], ◌∷◌, ◌++◌, map, Memᴰ}
use Rattle.rules.specs.Bytes.{Text, upto}
use Rattle.rules.specs.Maybe.{every}
use Rattle.rules.specs.Tree.{Tree, size, variable_names}
use Rattle.rules.specs.Substitution.{Binding, Pair, lookup, instantiate}
use Rattle.rules.specs.Equality.{Ac}
use Rattle.rules.specs.Reading.{parse}
use Rattle.rules.specs.Sheet.{Member, member_texts}
use Rattle.rules.specs.Solving.{solved, failed, unsupported, unify}
use Rattle.rules.specs.Matching.{matcher}
use Rattle.rules.specs.Reduction.{normalize}
use Rattle.rules.specs.Rewriting.{NormalModulo}
use Rattle.rules.specs.Cover.{variables, variables_of, entry_at, general}
use Rattle.rules.specs.Variants.{Variant, read_member, index_of, fresh_base, fresh_from, Scheme, schemes_from, scheme_count, system}

-- some text does not read
pub data Unreadable : List Text → Type 0 where
  this : {s : Text} {ss : List Text} → parse s ≡ None → Unreadable (s ∷ ss)
  later : {s : Text} {ss : List Text} → Unreadable ss → Unreadable (s ∷ ss)

-- in byte order, each once: no text is up to one before it
abbrev pub Ascending : List Text → Type 0
Ascending [] = Unit {0}
Ascending (x ∷ xs) = ((y : Text) → Memᴰ y xs → upto y x ≡ false) × Ascending xs

-- Sound

-- the member's term is Ac equal to the reduced instance; none where a text does not read or the instance is over the limit
pub data SoundMeans (term : Tree) (m : Member) : Option Bool → Type 0 where
  text_unreadable : Unreadable (member_texts (m ∷ [])) → SoundMeans term m None
  instance_over : {v : Variant} → read_member m ≡ Some v → 4096 < size (instantiate v.1 term) → SoundMeans term m None
  is_variant : {v : Variant} → read_member m ≡ Some v → size (instantiate v.1 term) ≤ 4096 → Ac (normalize (instantiate v.1 term)) v.0
      → SoundMeans term m (Some true)
  is_other : {v : Variant} → read_member m ≡ Some v → size (instantiate v.1 term) ≤ 4096 → ¬ Ac (normalize (instantiate v.1 term)) v.0
      → SoundMeans term m (Some false)

-- Cover

-- the member's trees at the variables, against the answer's
pub data Against (bs : List Binding) (m : Member) : List Text → List Pair → Type 0 where
  nil : Against bs m [] []
  next : {x : Text} {xs : List Text} {g u : Tree} {ps : List Pair} → general m x ≡ Some g → lookup bs x ≡ u → Against bs m xs ps
      → Against bs m (x ∷ xs) ((g, u) ∷ ps)

-- a member covers where its text at one of the variables does not read, or its trees there are not found to differ
pub data Covers (xs : List Text) (bs : List Binding) (m : Member) : Type 0 where
  at_unreadable : {x s : Text} → Memᴰ x xs → entry_at m.1 x ≡ Some s → parse s ≡ None → Covers xs bs m
  not_failed : {ps : List Pair} → Against bs m xs ps → ¬ ((matcher 65536 ps).0 ≡ failed) → Covers xs bs m

-- some member covers the solved pairs; none where they are not solved
pub data CoveredMeans (ps : List Pair) (ms : List Member) : Option Bool → Type 0 where
  not_solved : ((bs : List Binding) → ¬ ((unify 65536 ps).0 ≡ solved bs)) → CoveredMeans ps ms None
  some_covers : {bs : List Binding} {m : Member} → (unify 65536 ps).0 ≡ solved bs → Memᴰ m ms → Covers (variables_of ps) bs m
      → CoveredMeans ps ms (Some true)
  none_covers : {bs : List Binding} → (unify 65536 ps).0 ≡ solved bs → ((m : Member) → Memᴰ m ms → ¬ Covers (variables_of ps) bs m)
      → CoveredMeans ps ms (Some false)

-- Complete

-- why there is no claim: a text does not read, a variable has no index below 2^63, there are over 4,096 schemes, or one is
-- unsupported
pub data Unclaimed (term : Tree) (members : List Member) : Type 0 where
  member_unreadable : Unreadable (member_texts members) → Unclaimed term members
  index_missing : {x : Text} → Memᴰ x (variable_names term) → index_of x ≡ None → Unclaimed term members
  schemes_over : 4096 < scheme_count term → Unclaimed term members
  scheme_unsupported : {base : ℕ} {s : Scheme} → fresh_base term 0 ≡ Some base → Memᴰ s (schemes_from (fresh_from base) term 0)
      → (unify 65536 (system term s)).0 ≡ unsupported → Unclaimed term members

-- what a claim is about: the members as read, and the schemes from a base on, all decided
pub record Claim (term : Tree) (members : List Member) : Type 0 where
  pub variants : List Variant
  pub base : ℕ
  pub read : every (map read_member members) ≡ Some variants
  pub indexed : fresh_base term 0 ≡ Some base
  pub limited : scheme_count term ≤ 4096
  pub decided : (s : Scheme) → Memᴰ s (schemes_from (fresh_from base) term 0) → ¬ ((unify 65536 (system term s)).0 ≡ unsupported)

-- a solved scheme whose value is normal under its bindings
pub record Target (term : Tree) (base : ℕ) (s : Scheme) (bs : List Binding) : Type 0 where
  pub listed : Memᴰ s (schemes_from (fresh_from base) term 0)
  pub solution : (unify 65536 (system term s)).0 ≡ solved bs
  pub normal : NormalModulo (instantiate bs s.value)

-- the variant's trees at the term's variables, and its term, are not found to differ from the scheme's
abbrev pub Generalizes : Tree → Variant → Scheme → List Binding → Type 0
Generalizes term m s bs =
    ¬ ((matcher 65536 (map (λ x. (lookup m.1 x, lookup bs x)) (variables term []) ++ ((m.0, instantiate bs s.value) ∷ []))).0 ≡ failed)

pub data CompleteMeans (term : Tree) (members : List Member) : Option Bool → Type 0 where
  no_claim : Unclaimed term members → CompleteMeans term members None
  is_complete : (c : Claim term members)
      → ((s : Scheme) (bs : List Binding) → Target term c.base s bs → (m : Variant) × Memᴰ m c.variants × Generalizes term m s bs)
      → CompleteMeans term members (Some true)
  is_missing : (c : Claim term members) {s : Scheme} {bs : List Binding} → Target term c.base s bs
      → ((m : Variant) → Memᴰ m c.variants → ¬ Generalizes term m s bs) → CompleteMeans term members (Some false)
