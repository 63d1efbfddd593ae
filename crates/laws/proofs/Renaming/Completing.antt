-- The names that the schemes of a term use besides the term's do not matter to `complete`: schemes renamed by a renaming that keeps the
-- term's names, and those of the members' applications, are judged alike.
use mathlib.Core.Path.{◌≡◌, refl, sym, ◌∙◌, ap, ap₂}
use mathlib.Core.Bool.{Bool, true, false}
use mathlib.Core.List.{List, [], ◌∷◌, ◌++◌, map, map-append}
use Rattle.std.specs.Prelude.{Option, Some, None}
use Prim.Native.Nat.{ℕ}
use lib.Dec.{leb}
use Rattle.rules.specs.Bytes.{Text, same, upto}
use Rattle.rules.specs.Names.{variable_token}
use Rattle.rules.specs.Maybe.{◌>>=◌, guard}
use Rattle.rules.specs.Tree.{Tree, variable, atom, apply, Trees, none, more, size, variable_names, variable_names_in}
use Rattle.rules.specs.Substitution.{substitute, Binding, Pair, pick, lookup, instantiate}
use Rattle.rules.specs.Sums.{equivalent}
use Rattle.rules.specs.Solving.{Verdict, solved, failed, unsupported, Answer, unify}
use Rattle.rules.specs.Reduction.{normalize}
use Rattle.rules.specs.Cover.{insert_once, variables, variables_in, covering}
use Rattle.rules.specs.Variants.{Variant, instance_of, Scheme, system, solved_schemes, generalized, all_generalized}
use Rattle.rules.specs.Tidy.{Built, a_variable, Builts}
use Rattle.laws.proofs.Equality.Building.{built_first, built_rest, built_children}
use Rattle.laws.proofs.Solving.Keeping.{Sides}
use Rattle.laws.proofs.Sheets.BuiltRun.{BuiltPairs, BuiltBindings, Writable, name_token, lookup_built, instance_built, unify_writable}
use Rattle.laws.proofs.Reduction.Reaching.{built_normal}
use Rattle.laws.proofs.Variants.Targets.{All, all_append, pairs_append}
use Rattle.laws.proofs.Renaming.Renamed.{Renaming, rename, renames, rename_pair, rename_pairs, rename_bindings, rename_verdict, rename_variant, rename_scheme, mapped, equivalent_renamed}
use Rattle.laws.proofs.Renaming.Instances.{lookup_renamed, instance_renamed, instance_size}
use Rattle.laws.proofs.Renaming.Unifying.{unify_renamed}
use Rattle.laws.proofs.Renaming.Matching.{Pattern, rename_subjects, covering_renamed}
use Rattle.laws.proofs.Renaming.Reducing.{normalize_renamed}

-- Names of a tree

module _ (P : Text → Type 0) where
  insert_all : (x : Text) (xs : List Text) → P x → All P xs → All P (insert_once x xs)
  unfolding insert_once
  insert_all x [] p h = (p, tt)
  insert_all x (y ∷ ys) p h = go (same x y) (upto x y) (insert_all x ys p h.1)
    where
      go : (b c : Bool) → All P (insert_once x ys) → All P (elim b [ true ↦ y ∷ ys | false ↦ elim c [ true ↦ x ∷ y ∷ ys | false ↦ y ∷ insert_once x ys ] ])
      go true c k = h
      go false true k = (p, h)
      go false false k = (h.0, k)

  pub all_left : (l m : List Text) → All P (l ++ m) → All P l
  all_left [] m h = tt
  all_left (x ∷ l) m h = (h.0, all_left l m h.1)

  pub all_right : (l m : List Text) → All P (l ++ m) → All P m
  all_right [] m h = h
  all_right (x ∷ l) m h = all_right l m h.1

  mutual
    unfolding variables variable_names

    variables_all : (t : Tree) (found : List Text) → All P (variable_names t) → All P found → All P (variables t found)
    variables_all (variable x) found h k = insert_all x found h.0 k
    variables_all (atom c d) found h k = k
    variables_all (apply f ts) found h k = variables_in_all ts found h k

    variables_in_all : (ts : Trees) (found : List Text) → All P (variable_names_in ts) → All P found → All P (variables_in ts found)
    variables_in_all none found h k = k
    variables_in_all (more t ts) found h k =
        variables_in_all ts (variables t found) (all_right (variable_names t) (variable_names_in ts) h)
        (variables_all t found (all_left (variable_names t) (variable_names_in ts) h) k)

abbrev Token : Text → Type 0
Token x = variable_token x ≡ true

mutual
  unfolding variable_names

  names_tokens : (t : Tree) → Built t → All Token (variable_names t)
  names_tokens (variable x) b = (name_token b, tt)
  names_tokens (atom c d) b = tt
  names_tokens (apply f ts) b = names_in_tokens ts (built_children b)

  names_in_tokens : (ts : Trees) → Builts ts → All Token (variable_names_in ts)
  names_in_tokens none b = tt
  names_in_tokens (more t ts) b =
      all_append Token (variable_names t) (variable_names_in ts) (names_tokens t (built_first b)) (names_in_tokens ts (built_rest b))

abbrev pub Fixed : (Text → Text) → Text → Type 0
Fixed r x = r x ≡ x

module _ (r : Text → Text) where
  mutual
    unfolding variable_names substitute

    pub rename_fixed : (t : Tree) → All (Fixed r) (variable_names t) → rename r t ≡ t
    rename_fixed (variable x) h = ap variable h.0
    rename_fixed (atom c d) h = refl
    rename_fixed (apply f ts) h = ap (apply f) (renames_fixed ts h)

    renames_fixed : (ts : Trees) → All (Fixed r) (variable_names_in ts) → renames r ts ≡ ts
    renames_fixed none h = refl
    renames_fixed (more t ts) h =
        ap₂ more (rename_fixed t (all_left (Fixed r) (variable_names t) (variable_names_in ts) h))
        (renames_fixed ts (all_right (Fixed r) (variable_names t) (variable_names_in ts) h))

-- Schemes as reading builds trees, their bindings, and members

abbrev pub BuiltScheme : Scheme → Type 0
BuiltScheme s = Built s.value × BuiltPairs s.equations

abbrev BuiltVariant : Variant → Type 0
BuiltVariant v = Built v.0 × BuiltBindings v.1

abbrev pub PatternBinding : (Text → Text) → Binding → Type 0
PatternBinding r b = Pattern r b.1

-- the trees of a member
abbrev pub PatternVariant : (Text → Text) → Variant → Type 0
PatternVariant r m = Pattern r m.0 × All (PatternBinding r) m.1

pattern_at : (r : Text → Text) (bs : List Binding) (x : Text) → All (PatternBinding r) bs → Token x → Pattern r (lookup bs x)
unfolding lookup
pattern_at r [] x h v = (a_variable v, tt)
pattern_at r (b ∷ bs) x h v = go (same b.0 x) (pattern_at r bs x h.1 v)
  where
    go : (c : Bool) → Pattern r (lookup bs x) → Pattern r (pick c b.1 (lookup bs x))
    go true k = h.0
    go false k = k

abbrev AllFound : Option (List Variant) → Type 0
AllFound None = Unit {0}
AllFound (Some vs) = All BuiltVariant vs

-- what becomes of a scheme
abbrev found_at : Verdict → Tree → Option (List Variant) → Option (List Variant)
found_at v value o = elim v [ solved bs ↦ o >>= λ rest. Some ((value, bs) ∷ rest) | failed ↦ o | unsupported ↦ None ]

module _ {r : Text → Text} (h : Renaming r) (term : Tree) (built : Built term) (fixed : All (Fixed r) (variable_names term)) where
  -- Solving

  system_built : (s : Scheme) → BuiltScheme s → BuiltPairs (system term s)
  system_built s b = pairs_append s.equations ((term, term) ∷ (s.value, s.value) ∷ []) b.1 (built, built, (b.0, b.0, tt))

  system_renamed : (s : Scheme) → system term (rename_scheme r s) ≡ rename_pairs r (system term s)
  system_renamed s =
      ap (λ (t : Tree). rename_pairs r s.equations ++ ((t, t) ∷ (rename r s.value, rename r s.value) ∷ [])) (sym (rename_fixed r term fixed))
      ∙ sym (map-append (rename_pair r) s.equations ((term, term) ∷ (s.value, s.value) ∷ []))

  solved_renamed : (ss : List Scheme) → All BuiltScheme ss
      → solved_schemes term (map (rename_scheme r) ss) ≡ mapped (map (rename_variant r)) (solved_schemes term ss)
  unfolding solved_schemes
  solved_renamed [] b = refl
  solved_renamed (s ∷ ss) b =
      ap₂ (λ (a : Answer) (o : Option (List Variant)). found_at a.0 (rename r s.value) o)
      (ap (unify 65536) (system_renamed s) ∙ unify_renamed h 65536 (system term s) (system_built s b.0)) (solved_renamed ss b.1)
      ∙ go (unify 65536 (system term s)).0 (solved_schemes term ss)
    where
      more_found : (bs : List Binding) (o : Option (List Variant))
          → (mapped (map (rename_variant r)) o >>= λ rest. Some ((rename r s.value, rename_bindings r bs) ∷ rest))
          ≡ mapped (map (rename_variant r)) (o >>= λ rest. Some ((s.value, bs) ∷ rest))
      more_found bs None = refl
      more_found bs (Some vs) = refl

      go : (w : Verdict) (o : Option (List Variant))
          → found_at (rename_verdict r w) (rename r s.value) (mapped (map (rename_variant r)) o) ≡ mapped (map (rename_variant r)) (found_at w s.value o)
      go (solved bs) o = more_found bs o
      go failed o = refl
      go unsupported o = refl

  solved_built : (ss : List Scheme) → All BuiltScheme ss → AllFound (solved_schemes term ss)
  unfolding solved_schemes
  solved_built [] b = tt
  solved_built (s ∷ ss) b =
      go (unify 65536 (system term s)).0 (unify_writable 65536 (system term s) (system_built s b.0)) (solved_schemes term ss) (solved_built ss b.1)
    where
      go : (w : Verdict) → Writable w → (o : Option (List Variant)) → AllFound o → AllFound (found_at w s.value o)
      go (solved bs) k None m = tt
      go (solved bs) k (Some vs) m = ((b.0.0, k.0), m)
      go failed k o m = m
      go unsupported k o m = tt

-- Judging

module _ {r : Text → Text} (h : Renaming r) (xs : List Text) (fixed : All (Fixed r) xs) (tokens : All Token xs) where
  abbrev judged : Variant → List Binding → List Text → Tree → List Pair
  judged m bs ys value = map (λ x. (lookup m.1 x, lookup bs x)) ys ++ ((m.0, value) ∷ [])

  judged_renamed : (m : Variant) (bs : List Binding) (value : Tree) (ys : List Text) → All (Fixed r) ys
      → judged m (rename_bindings r bs) ys (rename r value) ≡ rename_subjects r (judged m bs ys value)
  judged_renamed m bs value [] e = refl
  judged_renamed m bs value (y ∷ ys) e =
      ap₂ (λ (t : Tree) (ps : List Pair). (lookup m.1 y, t) ∷ ps)
      (ap (lookup (rename_bindings r bs)) (sym e.0) ∙ lookup_renamed h bs y) (judged_renamed m bs value ys e.1)

  judged_sides : (m : Variant) (bs : List Binding) (value : Tree) → PatternVariant r m → BuiltBindings bs → Built value → (ys : List Text) → All Token ys
      → Sides (Pattern r) Built (judged m bs ys value)
  judged_sides m bs value p b q [] v = (p.0, q, tt)
  judged_sides m bs value p b q (y ∷ ys) v = (pattern_at r m.1 y p.1 v.0, lookup_built bs b y v.0, judged_sides m bs value p b q ys v.1)

  generalized_renamed : (ms : List Variant) (bs : List Binding) (value : Tree) → All (PatternVariant r) ms → BuiltBindings bs → Built value
      → generalized xs ms (rename_bindings r bs) (rename r value) ≡ generalized xs ms bs value
  unfolding generalized
  generalized_renamed [] bs value p b q = refl
  generalized_renamed (m ∷ ms) bs value p b q =
      ap₂ (λ (c d : Bool). elim c [ true ↦ true | false ↦ d ])
      (ap covering (judged_renamed m bs value xs fixed) ∙ covering_renamed h (judged m bs xs value) (judged_sides m bs value p.0 b q xs tokens))
      (generalized_renamed ms bs value p.1 b q)

  module _ (ms : List Variant) (patterns : All (PatternVariant r) ms) where
    abbrev verdict_at : Bool → Bool → Option Bool → Option Bool
    verdict_at normal general o = elim normal [ false ↦ o | true ↦ elim general [ true ↦ o | false ↦ Some false ] ]

    abbrev judge : List Binding → Option Bool → Tree → Option Bool
    judge bs o value = verdict_at (equivalent value (normalize value)) (generalized xs ms bs value) o

    judge_renamed : (bs : List Binding) (o p : Option Bool) (value : Tree) → BuiltBindings bs → Built value → o ≡ p
        → judge (rename_bindings r bs) o (rename r value) ≡ judge bs p value
    judge_renamed bs o p value b q e =
        ap (λ (c : Bool). verdict_at c (generalized xs ms (rename_bindings r bs) (rename r value)) o)
        (ap (equivalent (rename r value)) (normalize_renamed h value q) ∙ equivalent_renamed h value (normalize value) q (built_normal value q))
        ∙ ap₂ (λ (c : Bool) (w : Option Bool). verdict_at (equivalent value (normalize value)) c w) (generalized_renamed ms bs value patterns b q) e

    all_renamed : (vs : List Variant) → All BuiltVariant vs → all_generalized xs ms (map (rename_variant r) vs) ≡ all_generalized xs ms vs
    unfolding all_generalized instance_of
    all_renamed [] b = refl
    all_renamed (v ∷ vs) b =
        ap₂ (λ (n : ℕ) (t : Tree). (guard (leb n 4096) >>= λ u. Some t) >>= judge (rename_bindings r v.1) (all_generalized xs ms (map (rename_variant r) vs)))
        (instance_size h v.1 v.0) (instance_renamed h v.1 v.0)
        ∙ go (leb (size (instantiate v.1 v.0)) 4096) (all_renamed vs b.1)
      where
        go : (c : Bool) → all_generalized xs ms (map (rename_variant r) vs) ≡ all_generalized xs ms vs
            → ((guard c >>= λ u. Some (rename r (instantiate v.1 v.0))) >>= judge (rename_bindings r v.1) (all_generalized xs ms (map (rename_variant r) vs)))
            ≡ ((guard c >>= λ u. Some (instantiate v.1 v.0)) >>= judge v.1 (all_generalized xs ms vs))
        go true e = judge_renamed v.1 _ _ (instantiate v.1 v.0) b.0.1 (instance_built v.1 b.0.1 b.0.0) e
        go false e = refl

-- Both

pub judged_alike : {r : Text → Text} → Renaming r → (term : Tree) → Built term → All (Fixed r) (variable_names term)
    → (ms : List Variant) → All (PatternVariant r) ms → (ss : List Scheme) → All BuiltScheme ss
    → (solved_schemes term (map (rename_scheme r) ss) >>= all_generalized (variables term []) ms) ≡ (solved_schemes term ss >>= all_generalized (variables term []) ms)
judged_alike {r} h term built fixed ms patterns ss b =
    ap (λ (o : Option (List Variant)). o >>= all_generalized (variables term []) ms) (solved_renamed h term built fixed ss b)
    ∙ go (solved_schemes term ss) (solved_built h term built fixed ss b)
  where
    go : (o : Option (List Variant)) → AllFound o
        → (mapped (map (rename_variant r)) o >>= all_generalized (variables term []) ms) ≡ (o >>= all_generalized (variables term []) ms)
    go None m = refl
    go (Some vs) m =
        all_renamed h (variables term []) (variables_all (Fixed r) term [] fixed tt) (variables_all Token term [] (names_tokens term built) tt) ms patterns vs m
