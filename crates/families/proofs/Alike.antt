-- Members in another order, and members whose bindings give the variables the same values, generalize alike; so the schemes are judged
-- alike.
use Prim.Native.Nat.{ℕ}
use mathlib.Core.Path.{◌≡◌, refl, sym, ap, ap₂, ◌∙◌}
use mathlib.Core.Bool.{Bool, true, false, not, false≢true}
use mathlib.Core.List.{List, [], ◌∷◌, ◌++◌, map, reverse}
use Rattle.std.specs.Prelude.{Option, Some, None}
use lib.ListN.{get_or, drop}
use borrow.Author.Tests.{ne_eqb}
use Rattle.rules.specs.Bytes.{Text}
use Rattle.rules.specs.Names.{variable_token}
use Rattle.rules.specs.Maybe.{◌>>=◌}
use Rattle.rules.specs.Tree.{Tree, Trees}
use Rattle.rules.specs.Substitution.{Binding, Pair, lookup}
use Rattle.rules.specs.Sums.{equivalent}
use Rattle.rules.specs.Reduction.{normalize}
use Rattle.rules.specs.Solving.{Verdict, solved, failed, unsupported, unify}
use Rattle.rules.specs.Cover.{covering}
use Rattle.rules.specs.Variants.{Variant, instance_of, Scheme, schemes_from, system, generalized}
use Rattle.laws.specs.Schemes.{Judgement, pending, settled, judge_tests, judge_instance, judge, judge_verdict, judged, judged_from}
use Rattle.laws.proofs.Variants.Targets.{All}
use Rattle.laws.proofs.Variants.VariableOrder.{Token}
use Rattle.substitution.specs.Bindings.{bindings_of}
use Rattle.variants.specs.Members.{nameable, Alike}
use Rattle.variables.proofs.Listings.{second_byte}
use Rattle.families.specs.Families.{StandsFor, Family, nil, next}
use Rattle.families.specs.Generalizing.{member_of, variants_of, member_pairs}
use Rattle.families.proofs.AnyOrder.{generalized_reverse}

-- a variable can be a key
token_nameable : (x : Text) → Token x → nameable x ≡ true
unfolding nameable variable_token
token_nameable [] h = absurd (false≢true h)
token_nameable (a ∷ n) h = ap not (ne_eqb (get_or n 0 0) 40 (second_byte (a ∷ n) h))

-- ---- members

pairs_alike : (bs cs ds : List Binding) → Alike bs cs → (xs : List Text) → All Token xs
    → map {B = Pair} (λ x. (lookup bs x, lookup ds x)) xs ≡ map {B = Pair} (λ x. (lookup cs x, lookup ds x)) xs
pairs_alike bs cs ds h [] o = refl
pairs_alike bs cs ds h (x ∷ xs) o =
    ap₂ (λ (t : Tree) (ps : List Pair). (t, lookup ds x) ∷ ps) (h x (token_nameable x o.0)) (pairs_alike bs cs ds h xs o.1)

stands_member : {t : Tree} {v : Variant} (h : StandsFor t v) → member_of t ≡ (v.0, bindings_of h.bindings)
unfolding member_of
stands_member h = ap member_of h.is

module _ (xs : List Text) (o : All Token xs) (bs : List Binding) (value : Tree) where
  pub stands_alike : {t : Tree} {v : Variant} → StandsFor t v → member_pairs xs (member_of t) bs value ≡ member_pairs xs v bs value
  unfolding member_pairs
  stands_alike {t} {v} h =
      ap (λ (m : Variant). member_pairs xs m bs value) (stands_member h)
      ∙ ap (λ (ps : List Pair). ps ++ ((v.0, value) ∷ [])) (pairs_alike (bindings_of h.bindings) v.1 bs h.alike xs o)

  pub family_alike : {ts : Trees} {vs : List Variant} → Family ts vs → generalized xs (variants_of ts) bs value ≡ generalized xs vs bs value
  unfolding generalized variants_of member_pairs
  family_alike nil = refl
  family_alike (next {ts = ts} {v = v} {vs = vs} h f) =
      ap {B = Bool} (λ (ps : List Pair). elim (covering ps) [ true ↦ true | false ↦ generalized xs (variants_of ts) bs value ]) (stands_alike h)
      ∙ ap {B = Bool} (λ (b : Bool). elim (covering (member_pairs xs v bs value)) [ true ↦ true | false ↦ b ]) (family_alike f)

-- ---- judging

module _ (xs : List Text) (us vs : List Variant) (h : (bs : List Binding) (value : Tree) → generalized xs us bs value ≡ generalized xs vs bs value) where
  instance_alike : (bs : List Binding) (o : Option Tree) → judge_instance xs us bs o ≡ judge_instance xs vs bs o
  unfolding judge_instance
  instance_alike bs None = refl
  instance_alike bs (Some v) = ap (judge_tests (equivalent v (normalize v))) (h bs v)

  judge_alike : (bs : List Binding) (value : Tree) (j : Judgement) → judge xs us bs value j ≡ judge xs vs bs value j
  unfolding judge
  judge_alike bs value pending = instance_alike bs (instance_of bs value)
  judge_alike bs value (settled r) = refl

  schemes_alike : (term : Tree) (ss : List Scheme) (j : Judgement) → judged term xs us ss j ≡ judged term xs vs ss j
  unfolding judged
  schemes_alike term [] j = refl
  schemes_alike term (s ∷ ss) j = go (unify 65536 (system term s)).0 (schemes_alike term ss)
    where
      go : (v : Verdict) → ((k : Judgement) → judged term xs us ss k ≡ judged term xs vs ss k)
          → (judge_verdict xs us s.value v j >>= λ k. judged term xs us ss k) ≡ (judge_verdict xs vs s.value v j >>= λ k. judged term xs vs ss k)
      go (solved bs) ih = ap (judged term xs us ss) (judge_alike bs s.value j) ∙ ih (judge xs vs bs s.value j)
      go failed ih = ih j
      go unsupported ih = refl

  pub judged_alike : (name : ℕ → Text) (term : Tree) (i : ℕ) (j : Judgement) → judged_from name term xs us i j ≡ judged_from name term xs vs i j
  unfolding judged_from
  judged_alike name term i j = schemes_alike term (drop i (schemes_from name term 0)) j

-- the members in cells, the last first, judge as the members do
pub family_judges : (name : ℕ → Text) (term : Tree) (xs : List Text) → All Token xs → {ts : Trees} (vs : List Variant) → Family ts vs → (i : ℕ) (j : Judgement)
    → judged_from name term xs (variants_of ts) i j ≡ judged_from name term xs (reverse vs) i j
family_judges name term xs o {ts} vs f i j =
    judged_alike xs (variants_of ts) (reverse vs) (λ bs value. family_alike xs o bs value f ∙ sym (generalized_reverse xs bs value vs)) name term i j
