-- What the answers of complete mean.
use Prim.Native.Nat.{ℕ, suc, ◌≤◌, max}
use native.Mathlib.Omega.{arith}
use mathlib.Core.Path.{◌≡◌, refl, sym, ◌∙◌, ap, subst}
use mathlib.Core.Bool.{Bool, true, false, true≢false}
use mathlib.Core.List.Memᴰ
use mathlib.Core.List.{List, [], ◌∷◌, ◌++◌, map, Memᴰ}
use mathlib.Core.Logic.{◌↔◌, ◌⊎◌, inl, inr}
use Rattle.std.specs.Prelude.{Option, Some, None}
use Rattle.laws.proofs.Basics.Somes.{some_injective, none_ne_some}
use lib.Dec.{leb}
use Rattle.rules.specs.Bytes.{Text}
use Rattle.rules.specs.Maybe.{◌>>=◌, guard, every}
use Rattle.rules.specs.Tree.{Tree, variable, atom, apply, Trees, none, more, size, variable_names, variable_names_in}
use Rattle.rules.specs.Substitution.{Binding, Pair, lookup, instantiate}
use Rattle.rules.specs.Sums.{equivalent}
use Rattle.rules.specs.Equality.{reflexive, symmetric, transitive}
use Rattle.rules.specs.Sheet.{Member}
use Rattle.rules.specs.Solving.{Verdict, solved, failed, unsupported, unify}
use Rattle.rules.specs.Reduction.{normalize}
use Rattle.rules.specs.Rewriting.{NormalModulo}
use Rattle.rules.specs.Cover.{variables, covering}
use Rattle.rules.specs.Variants.{Variant, read_member, instance_of, index_of, fresh_base, fresh_base_in, fresh_from, Scheme, schemes_from, scheme_count, schemes, system, solved_schemes, generalized, all_generalized, complete}
use Rattle.rules.specs.Tidy.{Built}
use Rattle.rules.specs.Families.{Unclaimed, member_unreadable, index_missing, schemes_over, scheme_unsupported, Claim, Target, Generalizes, CompleteMeans, no_claim, is_complete, is_missing}
use Rattle.laws.proofs.Basics.Tests.{leb_true, leb_false, true_leb}
use Rattle.laws.proofs.Equality.Canonical.{equivalent_sound, equivalent_complete}
use Rattle.laws.proofs.Equality.Rebuilding.{of_path}
use Rattle.laws.proofs.Reduction.Reaching.{built_normal}
use Rattle.laws.proofs.Reduction.Unique.{still}
use Rattle.laws.proofs.Reduction.Modulo.{reduced}
use Rattle.laws.proofs.Variants.Readable.{members_unread, unread_members}
use Rattle.laws.proofs.Variants.Covered.{covering_is, any, any_some, some_any}
use Rattle.laws.proofs.Variants.Targets.{fresh_tokens, target_built, target_within}

-- the test for a normal tree, on trees as reading builds them
pub normal_test : (t : Tree) → Built t → (equivalent t (normalize t) ≡ true) ↔ NormalModulo t
normal_test t b = (
  λ e u a. (reduced t b).to_normal u (transitive (symmetric (equivalent_sound b (built_normal t b) e)) a),
  λ n. equivalent_complete (of_path (sym (still t b (n t reflexive)))),
)

-- Indices

mutual
  unfolding fresh_base variable_names

  index_absent : (t : Tree) (base : ℕ) → fresh_base t base ≡ None → (x : Text) × Memᴰ x (variable_names t) × (index_of x ≡ None)
  index_absent (variable x) base h = (x, Memᴰ.head refl, go (index_of x) h)
    where
      go : (o : Option ℕ) → (o >>= λ i. Some (max base (suc i))) ≡ None → o ≡ None
      go None k = refl
      go (Some i) k = absurd (none_ne_some (max base (suc i)) (sym k))
  index_absent (atom c d) base h = absurd (none_ne_some base (sym h))
  index_absent (apply f ts) base h = index_absent_in ts base h

  index_absent_in : (ts : Trees) (base : ℕ) → fresh_base_in ts base ≡ None → (x : Text) × Memᴰ x (variable_names_in ts) × (index_of x ≡ None)
  index_absent_in none base h = absurd (none_ne_some base (sym h))
  index_absent_in (more t ts) base h = go (fresh_base t base) refl h (λ k. index_absent t base k) (λ b k. index_absent_in ts b k)
    where
      go : (o : Option ℕ) → fresh_base t base ≡ o → (o >>= λ b. fresh_base_in ts b) ≡ None
          → (fresh_base t base ≡ None → (x : Text) × Memᴰ x (variable_names t) × (index_of x ≡ None))
          → ((b : ℕ) → fresh_base_in ts b ≡ None → (x : Text) × Memᴰ x (variable_names_in ts) × (index_of x ≡ None))
          → (x : Text) × Memᴰ x (variable_names t ++ variable_names_in ts) × (index_of x ≡ None)
      go None e k ih ih₂ = let (x, m, i) = ih e in (x, Memᴰ.append_left (variable_names_in ts) m, i)
      go (Some b) e k ih ih₂ = let (x, m, i) = ih₂ b k in (x, Memᴰ.append_right (variable_names t) m, i)

mutual
  unfolding fresh_base variable_names

  base_absent : (t : Tree) (base : ℕ) (x : Text) → Memᴰ x (variable_names t) → index_of x ≡ None → fresh_base t base ≡ None
  base_absent (variable y) base x (Memᴰ.head e) h = ap (λ (o : Option ℕ). o >>= λ i. Some (max base (suc i))) (ap index_of (sym e) ∙ h)
  base_absent (variable y) base x (Memᴰ.tail m) h = absurd (Memᴰ.not-nil m)
  base_absent (atom c d) base x m h = absurd (Memᴰ.not-nil m)
  base_absent (apply f ts) base x m h = base_absent_in ts base x m h

  base_absent_in : (ts : Trees) (base : ℕ) (x : Text) → Memᴰ x (variable_names_in ts) → index_of x ≡ None → fresh_base_in ts base ≡ None
  base_absent_in none base x m h = absurd (Memᴰ.not-nil m)
  base_absent_in (more t ts) base x m h = go (Memᴰ.append_cases (variable_names t) m) (λ k. base_absent t base x k h) (λ b k. base_absent_in ts b x k h) (fresh_base t base) refl
    where
      go : Memᴰ x (variable_names t) ⊎ Memᴰ x (variable_names_in ts) → (Memᴰ x (variable_names t) → fresh_base t base ≡ None)
          → ((b : ℕ) → Memᴰ x (variable_names_in ts) → fresh_base_in ts b ≡ None) → (o : Option ℕ) → fresh_base t base ≡ o → (o >>= λ b. fresh_base_in ts b) ≡ None
      go a ih ih₂ None e = refl
      go (inl k) ih ih₂ (Some b) e = absurd (none_ne_some b (sym (ih k) ∙ e))
      go (inr k) ih ih₂ (Some b) e = ih₂ b k

-- Schemes that are solved

module _ (term : Tree) where
  -- each is solved or failed, and these are the values and bindings of the solved
  data Solves : List Scheme → List Variant → Type 0 where
    nil : Solves [] []
    solved_one : {s : Scheme} {ss : List Scheme} {w : Tree} {bs : List Binding} {vs : List Variant} → s.value ≡ w → (unify 65536 (system term s)).0 ≡ solved bs
        → Solves ss vs → Solves (s ∷ ss) ((w, bs) ∷ vs)
    failed_one : {s : Scheme} {ss : List Scheme} {vs : List Variant} → (unify 65536 (system term s)).0 ≡ failed → Solves ss vs → Solves (s ∷ ss) vs

  abbrev Undecided : List Scheme → Type 0
  Undecided ss = (s : Scheme) × Memᴰ s ss × ((unify 65536 (system term s)).0 ≡ unsupported)

  abbrev Sorted : List Scheme → Option (List Variant) → Type 0
  Sorted ss None = Undecided ss
  Sorted ss (Some vs) = Solves ss vs

  sort_schemes : (ss : List Scheme) → Sorted ss (solved_schemes term ss)
  unfolding solved_schemes
  sort_schemes [] = nil
  sort_schemes (s ∷ ss) = go (unify 65536 (system term s)).0 refl (solved_schemes term ss) (sort_schemes ss)
    where
      go : (v : Verdict) → (unify 65536 (system term s)).0 ≡ v → (o : Option (List Variant)) → Sorted ss o
          → Sorted (s ∷ ss) (elim v [ solved bs ↦ o >>= λ rest. Some ((s.value, bs) ∷ rest) | failed ↦ o | unsupported ↦ None ])
      go (solved bs) e None h = let (u, m, f) = h in (u, Memᴰ.tail m, f)
      go (solved bs) e (Some vs) h = solved_one refl e h
      go failed e None h = let (u, m, f) = h in (u, Memᴰ.tail m, f)
      go failed e (Some vs) h = failed_one e h
      go unsupported e o h = (s, Memᴰ.head refl, e)

  abbrev verdict_number : Verdict → ℕ
  verdict_number (solved bs) = 0
  verdict_number failed = 1
  verdict_number unsupported = 2

  -- so none is unsupported
  all_decided : {ss : List Scheme} {vs : List Variant} → Solves ss vs → (s : Scheme) → Memᴰ s ss → (unify 65536 (system term s)).0 ≡ unsupported → ⊥
  all_decided nil s x7 u = elim x7 [ ]
  all_decided (solved_one e f h) s (Memᴰ.head p) u =
      let z = ap verdict_number (sym f ∙ ap (λ (x : Scheme). (unify 65536 (system term x)).0) (sym p) ∙ u) in
      omega arith
  all_decided (solved_one e f h) s (Memᴰ.tail m) u = all_decided h s m u
  all_decided (failed_one f h) s (Memᴰ.head p) u =
      let z = ap verdict_number (sym f ∙ ap (λ (x : Scheme). (unify 65536 (system term x)).0) (sym p) ∙ u) in
      omega arith
  all_decided (failed_one f h) s (Memᴰ.tail m) u = all_decided h s m u

-- Members

module _ (term : Tree) (ms : List Variant) where
  abbrev pairs_with : List Binding → Tree → Variant → List Pair
  pairs_with bs value m = map (λ x. (lookup m.1 x, lookup bs x)) (variables term []) ++ ((m.0, value) ∷ [])

  generalized_any : (bs : List Binding) (value : Tree) (vs : List Variant) → generalized (variables term []) vs bs value ≡ any (λ m. covering (pairs_with bs value m)) vs
  unfolding generalized any
  generalized_any bs value [] = refl
  generalized_any bs value (m ∷ vs) = ap {B = Bool} (λ (b : Bool). elim (covering (pairs_with bs value m)) [ true ↦ true | false ↦ b ]) (generalized_any bs value vs)

  abbrev Generalized : Scheme → List Binding → Type 0
  Generalized s bs = (m : Variant) × Memᴰ m ms × Generalizes term m s bs

  -- what the test of the members says
  generalized_true : (s : Scheme) (bs : List Binding) → generalized (variables term []) ms bs (instantiate bs s.value) ≡ true → Generalized s bs
  generalized_true s bs e =
      let (m, h, f) = any_some (λ m. covering (pairs_with bs (instantiate bs s.value) m)) ms (sym (generalized_any bs (instantiate bs s.value) ms) ∙ e) in
      (m, h, (covering_is (pairs_with bs (instantiate bs s.value) m)).0 f)

  generalized_false : (s : Scheme) (bs : List Binding) → generalized (variables term []) ms bs (instantiate bs s.value) ≡ false → (m : Variant) → Memᴰ m ms → ¬ Generalizes term m s bs
  generalized_false s bs e m h g =
      true≢false (sym (some_any (λ n. covering (pairs_with bs (instantiate bs s.value) n)) ms m h ((covering_is (pairs_with bs (instantiate bs s.value) m)).1 g))
      ∙ (sym (generalized_any bs (instantiate bs s.value) ms) ∙ e))

-- The schemes against the members

abbrev solution : Verdict → Option (List Binding)
solution (solved bs) = Some bs
solution failed = None
solution unsupported = None

-- not normal: the rest; normal and generalized: the rest
abbrev decide : Bool → Bool → Option Bool → Option Bool
decide false b r = r
decide true true r = r
decide true false r = Some false

module _ (term : Tree) (ms : List Variant) where
  decided_by : (w : Tree) (bs : List Binding) (vs : List Variant) → size (instantiate bs w) ≤ 4096
      → all_generalized (variables term []) ms ((w, bs) ∷ vs)
      ≡ decide (equivalent (instantiate bs w) (normalize (instantiate bs w))) (generalized (variables term []) ms bs (instantiate bs w)) (all_generalized (variables term []) ms vs)
  unfolding all_generalized instance_of
  decided_by w bs vs l =
      ap {B = Option Bool} (λ (c : Bool). (guard c >>= λ _. Some (instantiate bs w)) >>= λ value. elim (equivalent value (normalize value)) [
        | false ↦ all_generalized (variables term []) ms vs
        | true ↦ elim (generalized (variables term []) ms bs value) [ true ↦ all_generalized (variables term []) ms vs | false ↦ Some false ]
      ]) (true_leb (size (instantiate bs w)) 4096 l)
      ∙ go (equivalent (instantiate bs w) (normalize (instantiate bs w))) (generalized (variables term []) ms bs (instantiate bs w)) (all_generalized (variables term []) ms vs)
    where
      go : (a b : Bool) (r : Option Bool) → elim a [ false ↦ r | true ↦ elim b [ true ↦ r | false ↦ Some false ] ] ≡ decide a b r
      go false b r = refl
      go true true r = refl
      go true false r = refl

  -- where this scheme is solved and its value is normal, some member generalizes it
  abbrev Met : Scheme → Type 0
  Met s = (bs : List Binding) → (unify 65536 (system term s)).0 ≡ solved bs → NormalModulo (instantiate bs s.value) → Generalized term ms s bs

  abbrev Judged : List Scheme → Option Bool → Type 0
  Judged ss None = ⊥
  Judged ss (Some true) = (s : Scheme) → Memᴰ s ss → Met s
  Judged ss (Some false) =
      (s : Scheme) × (bs : List Binding) × Memᴰ s ss × ((unify 65536 (system term s)).0 ≡ solved bs) × NormalModulo (instantiate bs s.value)
      × ((m : Variant) → Memᴰ m ms → ¬ Generalizes term m s bs)

  with_first : (s : Scheme) (ss : List Scheme) → Met s → (r : Option Bool) → Judged ss r → Judged (s ∷ ss) r
  with_first s ss q None j = j
  with_first s ss q (Some true) j = λ t m. at t m
    where
      at : (t : Scheme) → Memᴰ t (s ∷ ss) → Met t
      at t (Memᴰ.head e) = subst Met (sym e) q
      at t (Memᴰ.tail m) = j t m
  with_first s ss q (Some false) j = let (t, bs, m, u, n, g) = j in (t, bs, Memᴰ.tail m, u, n, g)

  failed_met : (s : Scheme) → (unify 65536 (system term s)).0 ≡ failed → Met s
  failed_met s f bs u n = absurd (none_ne_some bs (ap solution (sym f ∙ u)))

  solved_met : (s : Scheme) (bs : List Binding) → (unify 65536 (system term s)).0 ≡ solved bs → (NormalModulo (instantiate bs s.value) → Generalized term ms s bs) → Met s
  solved_met s bs f k cs u n =
      subst (λ (ds : List Binding). NormalModulo (instantiate ds s.value) → Generalized term ms s ds) (some_injective bs cs (ap solution (sym f ∙ u))) k n

  module _ (built : Built term) (small : size term ≤ 4096) (base : ℕ) where
    first_judged : (s : Scheme) (ss : List Scheme) (bs : List Binding) (vs : List Variant) → Memᴰ s (schemes_from (fresh_from base) term 0)
        → (unify 65536 (system term s)).0 ≡ solved bs → Judged ss (all_generalized (variables term []) ms vs)
        → Judged (s ∷ ss) (all_generalized (variables term []) ms ((s.value, bs) ∷ vs))
    first_judged s ss bs vs m f j =
        subst (Judged (s ∷ ss)) (sym (decided_by s.value bs vs (target_within (fresh_from base) (fresh_tokens base) term built small 0 s m 65536 bs f)))
        (go (equivalent (instantiate bs s.value) (normalize (instantiate bs s.value))) refl (generalized (variables term []) ms bs (instantiate bs s.value)) refl)
      where
        normality : (equivalent (instantiate bs s.value) (normalize (instantiate bs s.value)) ≡ true) ↔ NormalModulo (instantiate bs s.value)
        normality = normal_test (instantiate bs s.value) (target_built (fresh_from base) (fresh_tokens base) term built small 0 s m 65536 bs f)

        go : (a : Bool) → equivalent (instantiate bs s.value) (normalize (instantiate bs s.value)) ≡ a
            → (b : Bool) → generalized (variables term []) ms bs (instantiate bs s.value) ≡ b
            → Judged (s ∷ ss) (decide a b (all_generalized (variables term []) ms vs))
        go false e b g =
            with_first s ss (solved_met s bs f (λ n. absurd (true≢false (sym (normality.1 n) ∙ e)))) (all_generalized (variables term []) ms vs) j
        go true e true g = with_first s ss (solved_met s bs f (λ n. generalized_true term ms s bs g)) (all_generalized (variables term []) ms vs) j
        go true e false g = (s, bs, Memᴰ.head refl, f, normality.0 e, generalized_false term ms s bs g)

    judge : {ss : List Scheme} {vs : List Variant} → ((s : Scheme) → Memᴰ s ss → Memᴰ s (schemes_from (fresh_from base) term 0)) → Solves term ss vs
        → Judged ss (all_generalized (variables term []) ms vs)
    unfolding all_generalized
    judge within nil = λ s m. absurd (Memᴰ.not-nil m)
    judge within (solved_one {s} {ss} {bs = bs} {vs} e f h) =
        subst (λ (u : Tree). Judged (s ∷ ss) (all_generalized (variables term []) ms ((u, bs) ∷ vs))) e
        (first_judged s ss bs vs (within s (Memᴰ.head refl)) f (judge (λ t m. within t (Memᴰ.tail m)) h))
    judge within (failed_one {s} {ss} {vs} f h) =
        with_first s ss (failed_met s f) (all_generalized (variables term []) ms vs) (judge (λ t m. within t (Memᴰ.tail m)) h)

-- The answer

module _ (term : Tree) (built : Built term) (small : size term ≤ 4096) (members : List Member) where
  claimed : (c : Claim term members) (r : Option Bool) → Judged term c.variants (schemes_from (fresh_from c.base) term 0) r → CompleteMeans term members r
  claimed c None j = absurd j
  claimed c (Some true) j = is_complete c (λ s bs t. j s t.listed bs t.solution t.normal)
  claimed c (Some false) j = let (s, bs, m, u, n, g) = j in is_missing c {s = s} {bs = bs} (record { listed = m; solution = u; normal = n }) g

  -- the members read, the base is known, the schemes are not too many
  after_count : (ms : List Variant) (base : ℕ) → every (map read_member members) ≡ Some ms → fresh_base term 0 ≡ Some base → scheme_count term ≤ 4096
      → (o : Option (List Variant)) → Sorted term (schemes_from (fresh_from base) term 0) o → CompleteMeans term members (o >>= λ found. all_generalized (variables term []) ms found)
  after_count ms base e f l None h = let (s, m, u) = h in no_claim (scheme_unsupported f m u)
  after_count ms base e f l (Some vs) h =
      claimed (record { variants = ms; base = base; read = e; indexed = f; limited = l; decided = λ s m u. all_decided term h s m u })
      (all_generalized (variables term []) ms vs) (judge term ms built small base (λ s m. m) h)

  abbrev from_schemes : List Variant → List Scheme → Option Bool
  from_schemes ms ss = solved_schemes term ss >>= λ found. all_generalized (variables term []) ms found

  after_base : (ms : List Variant) (base : ℕ) → every (map read_member members) ≡ Some ms → fresh_base term 0 ≡ Some base → (b : Bool) → leb (scheme_count term) 4096 ≡ b
      → CompleteMeans term members ((guard b >>= λ _. Some (schemes_from (fresh_from base) term 0)) >>= from_schemes ms)
  after_base ms base e f false g = no_claim (schemes_over (leb_false (scheme_count term) 4096 g))
  after_base ms base e f true g =
      after_count ms base e f (leb_true (scheme_count term) 4096 g) (solved_schemes term (schemes_from (fresh_from base) term 0)) (sort_schemes term (schemes_from (fresh_from base) term 0))

  after_members : (ms : List Variant) → every (map read_member members) ≡ Some ms → (o : Option ℕ) → fresh_base term 0 ≡ o
      → CompleteMeans term members ((o >>= λ base. guard (leb (scheme_count term) 4096) >>= λ _. Some (schemes_from (fresh_from base) term 0)) >>= from_schemes ms)
  after_members ms e None f = let (x, m, i) = index_absent term 0 f in no_claim (index_missing m i)
  after_members ms e (Some base) f = after_base ms base e f (leb (scheme_count term) 4096) refl

  complete_view : CompleteMeans term members (complete term members)
  unfolding complete schemes
  complete_view = go (every (map read_member members)) refl
    where
      go : (o : Option (List Variant)) → every (map read_member members) ≡ o → CompleteMeans term members (o >>= λ ms. schemes term >>= from_schemes ms)
      go None e = no_claim (member_unreadable (members_unread members e))
      go (Some ms) e = after_members ms e (fresh_base term 0) refl

  -- no two of the cases hold

  not_both : Unclaimed term members → Claim term members → ⊥
  not_both (member_unreadable u) c = none_ne_some c.variants (sym (unread_members members u) ∙ c.read)
  not_both (index_missing {x} m i) c = none_ne_some c.base (sym (base_absent term 0 x m i) ∙ c.indexed)
  not_both (schemes_over h) c = let l = c.limited in omega arith
  not_both (scheme_unsupported {base} {s} f m u) c =
      c.decided s (subst (λ (b : ℕ). Memᴰ s (schemes_from (fresh_from b) term 0)) (some_injective base c.base (sym f ∙ c.indexed)) m) u

  contrary : (c d : Claim term members)
      → ((s : Scheme) (bs : List Binding) → Target term c.base s bs → (m : Variant) × Memᴰ m c.variants × Generalizes term m s bs)
      → {s : Scheme} {bs : List Binding} → Target term d.base s bs → ((m : Variant) → Memᴰ m d.variants → ¬ Generalizes term m s bs) → ⊥
  contrary c d f {s} {bs} t g =
      let b = some_injective d.base c.base (sym d.indexed ∙ c.indexed) in
      let v = some_injective c.variants d.variants (sym c.read ∙ d.read) in
      let (m, h, k) = f s bs (subst (λ (n : ℕ). Target term n s bs) b t) in
      g m (subst (λ (vs : List Variant). Memᴰ m vs) v h) k

  agree : {p q : Option Bool} → CompleteMeans term members p → CompleteMeans term members q → p ≡ q
  agree (no_claim u) (no_claim w) = refl
  agree (no_claim u) (is_complete c f) = absurd (not_both u c)
  agree (no_claim u) (is_missing c t g) = absurd (not_both u c)
  agree (is_complete c f) (no_claim w) = absurd (not_both w c)
  agree (is_complete c f) (is_complete d g) = refl
  agree (is_complete c f) (is_missing d t g) = absurd (contrary c d f t g)
  agree (is_missing c t g) (no_claim w) = absurd (not_both w c)
  agree (is_missing c t g) (is_complete d f) = absurd (contrary d c f t g)
  agree (is_missing c t g) (is_missing d u h) = refl

  pub complete_is : (r : Option Bool) → (complete term members ≡ r) ↔ CompleteMeans term members r
  complete_is r = (λ e. subst (CompleteMeans term members) e complete_view, λ c. agree complete_view c)
