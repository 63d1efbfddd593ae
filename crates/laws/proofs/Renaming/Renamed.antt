-- Renaming the variables of trees, pairs, bindings, answers and schemes, by a function that is its own inverse and keeps sorts: twice
-- is nothing, and the tests of names, sizes and sorts answer as before.
use mathlib.Core.Path.{◌≡◌, refl, sym, ◌∙◌, ap, ap₂}
use mathlib.Core.Bool.{Bool, true, false, ◌&&◌, ◌||◌}
use mathlib.Core.List.{List, map}
use Rattle.std.specs.Prelude.{Option, Some, None}
use Prim.Native.Nat.{ℕ, ◌+◌}
use Rattle.rules.specs.Bytes.{Text, same}
use Rattle.rules.specs.Names.{variable_token}
use Rattle.rules.specs.Tree.{Tree, variable, atom, apply, Trees, none, more, children, size, sizes, same_tree, occurs, occurs_in}
use Rattle.rules.specs.Substitution.{Substitution, substitute, substitutes, Binding, Pair}
use Rattle.rules.specs.declared.Sort.{Sort}
use Rattle.rules.specs.declared.Sort.TheVariants.{Pub, Fresh, Msg, TamNat, Node}
use Rattle.rules.specs.Sorts.{symbol, Symbol, addition, unit, frame, free, variable_sort, has_sort, has_message_sort, natural_at, natural, naturals, message_at, message, messages, basic, sorted, may_meet, refinable_at, refinable, refinables, sort_refuted}
use Rattle.rules.specs.Equality.{Ac}
use Rattle.rules.specs.Sums.{equivalent}
use Rattle.rules.specs.Solving.{Verdict, solved, failed, unsupported, Answer}
use Rattle.rules.specs.Variants.{Variant, Scheme, scheme}
use Rattle.rules.specs.Tidy.{Built, a_variable, Builts}
use Rattle.laws.proofs.Basics.Tests.{same_eq, same_of_eq, tree_eq}
use Rattle.laws.proofs.Equality.Canonical.{equivalent_complete, equivalent_sound}
use Rattle.laws.proofs.Solving.Substituting.{substitute_twice, substitute_nothing, ac_substitute}
use Rattle.laws.proofs.Solving.Rules.{same_tree_self}
use Rattle.laws.proofs.Sheets.BuiltRun.{substitute_built}

-- the name is its own name's name, and has its sort and form
pub record Renaming (r : Text → Text) : Type 0 where
  pub twice : (x : Text) → r (r x) ≡ x
  pub sort_kept : (x : Text) → variable_sort (r x) ≡ variable_sort x
  pub token_kept : (x : Text) → variable_token (r x) ≡ variable_token x

module _ (r : Text → Text) where
  abbrev pub as_variable : Substitution
  as_variable x = variable (r x)

  abbrev pub rename : Tree → Tree
  rename t = substitute as_variable t

  abbrev pub renames : Trees → Trees
  renames ts = substitutes as_variable ts

  abbrev pub rename_pair : Pair → Pair
  rename_pair p = (rename p.0, rename p.1)

  abbrev pub rename_pairs : List Pair → List Pair
  rename_pairs ps = map rename_pair ps

  abbrev pub rename_binding : Binding → Binding
  rename_binding b = (r b.0, rename b.1)

  abbrev pub rename_bindings : List Binding → List Binding
  rename_bindings bs = map rename_binding bs

  abbrev pub rename_verdict : Verdict → Verdict
  rename_verdict (solved bs) = solved (rename_bindings bs)
  rename_verdict failed = failed
  rename_verdict unsupported = unsupported

  abbrev pub rename_answer : Answer → Answer
  rename_answer a = (rename_verdict a.0, a.1)

  abbrev pub rename_variant : Variant → Variant
  rename_variant v = (rename v.0, rename_bindings v.1)

  abbrev pub rename_scheme : Scheme → Scheme
  rename_scheme s = scheme (rename s.value) (rename_pairs s.equations) s.next

module _ {A B : Type 0} where
  -- the value of a reading changed
  abbrev pub mapped : (A → B) → Option A → Option B
  mapped f None = None
  mapped f (Some a) = Some (f a)

-- tests that pass together are one
pub same_test : (b c : Bool) → (b ≡ true → c ≡ true) → (c ≡ true → b ≡ true) → b ≡ c
same_test true c f g = sym (f refl)
same_test false true f g = g refl
same_test false false f g = refl

module _ {r : Text → Text} (h : Renaming r) where
  -- names

  pub injective : {x y : Text} → r x ≡ r y → x ≡ y
  injective {x} {y} e = sym (h.twice x) ∙ ap r e ∙ h.twice y

  pub same_renamed : (x y : Text) → same (r x) (r y) ≡ same x y
  same_renamed x y =
      same_test (same (r x) (r y)) (same x y) (λ e. same_of_eq (injective (same_eq (r x) (r y) e))) (λ e. same_of_eq (ap r (same_eq x y e)))

  -- trees

  pub rename_twice : (t : Tree) → rename r (rename r t) ≡ t
  unfolding substitute
  rename_twice t = substitute_twice (as_variable r) (as_variable r) t ∙ substitute_nothing (λ x. variable (r (r x))) (λ x. ap variable (h.twice x)) t

  pub renames_twice : (ts : Trees) → renames r (renames r ts) ≡ ts
  unfolding substitute
  renames_twice none = refl
  renames_twice (more t ts) = ap₂ more (rename_twice t) (renames_twice ts)

  pub tree_renamed : (t u : Tree) → same_tree (rename r t) (rename r u) ≡ same_tree t u
  tree_renamed t u = same_test (same_tree (rename r t) (rename r u)) (same_tree t u)
      (λ e. one_tree (sym (rename_twice t) ∙ ap (rename r) (tree_eq (rename r t) (rename r u) e) ∙ rename_twice u)) (λ e. one_tree (ap (rename r) (tree_eq t u e)))
    where
      one_tree : {a b : Tree} → a ≡ b → same_tree a b ≡ true
      one_tree {a} e = rw (← e) (same_tree_self a)

  pub rename_built : {t : Tree} → Built t → Built (rename r t)
  rename_built = substitute_built (as_variable r) (λ x v. a_variable (h.token_kept x ∙ v))

  pub renames_built : {ts : Trees} → Builts ts → Builts (renames r ts)
  unfolding substitute
  renames_built Builts.nil = Builts.nil
  renames_built (Builts.both b bs) = Builts.both (rename_built b) (renames_built bs)

  -- the test of Ac equality
  pub equivalent_renamed : (t u : Tree) → Built t → Built u → equivalent (rename r t) (rename r u) ≡ equivalent t u
  equivalent_renamed t u p q = same_test (equivalent (rename r t) (rename r u)) (equivalent t u)
      (λ e. equivalent_complete (back (ac_substitute (as_variable r) (equivalent_sound (rename_built p) (rename_built q) e))))
      (λ e. equivalent_complete (ac_substitute (as_variable r) (equivalent_sound p q e)))
    where
      back : Ac (rename r (rename r t)) (rename r (rename r u)) → Ac t u
      back k = rw (rename_twice t, rename_twice u) at k

  -- sizes and occurrence

  mutual
    unfolding size substitute

    pub size_renamed : (t : Tree) → size (rename r t) ≡ size t
    size_renamed (variable x) = refl
    size_renamed (atom c d) = refl
    size_renamed (apply f ts) = ap (λ (n : ℕ). 1 + n) (sizes_renamed ts)

    sizes_renamed : (ts : Trees) → sizes (renames r ts) ≡ sizes ts
    sizes_renamed none = refl
    sizes_renamed (more t ts) = ap₂ ◌+◌ (size_renamed t) (sizes_renamed ts)

  mutual
    unfolding occurs substitute

    pub occurs_renamed : (x : Text) (t : Tree) → occurs (r x) (rename r t) ≡ occurs x t
    occurs_renamed x (variable y) = same_renamed y x
    occurs_renamed x (atom c d) = refl
    occurs_renamed x (apply f ts) = occurs_in_renamed x ts

    occurs_in_renamed : (x : Text) (ts : Trees) → occurs_in (r x) (renames r ts) ≡ occurs_in x ts
    occurs_in_renamed x none = refl
    occurs_in_renamed x (more t ts) = ap₂ ◌||◌ (occurs_renamed x t) (occurs_in_renamed x ts)

  -- sorts

  mutual
    unfolding natural substitute

    pub natural_renamed : (t : Tree) → natural (rename r t) ≡ natural t
    natural_renamed (variable x) = ap (has_sort TamNat) (h.sort_kept x)
    natural_renamed (atom c d) = refl
    natural_renamed (apply f ts) = ap (natural_at (symbol f)) (naturals_renamed ts)

    naturals_renamed : (ts : Trees) → naturals (renames r ts) ≡ naturals ts
    naturals_renamed none = refl
    naturals_renamed (more t ts) = ap₂ ◌&&◌ (natural_renamed t) (naturals_renamed ts)

  mutual
    unfolding message substitute

    pub message_renamed : (t : Tree) → message (rename r t) ≡ message t
    message_renamed (variable x) = ap has_message_sort (h.sort_kept x)
    message_renamed (atom c d) = refl
    message_renamed (apply f ts) = ap₂ (message_at (symbol f)) (naturals_renamed ts) (messages_renamed ts)

    messages_renamed : (ts : Trees) → messages (renames r ts) ≡ messages ts
    messages_renamed none = refl
    messages_renamed (more t ts) = ap₂ ◌&&◌ (message_renamed t) (messages_renamed ts)

  basic_renamed : (s : Sort) (k : ℕ) (t : Tree) → basic s k (rename r t) ≡ basic s k t
  unfolding basic substitute
  basic_renamed s k (variable x) = ap (has_sort s) (h.sort_kept x)
  basic_renamed s k (atom c d) = refl
  basic_renamed s k (apply f ts) = refl

  pub sorted_renamed : (s : Sort) (t : Tree) → sorted s (rename r t) ≡ sorted s t
  unfolding sorted
  sorted_renamed Pub t = basic_renamed Pub 112 t
  sorted_renamed Fresh t = basic_renamed Fresh 102 t
  sorted_renamed Msg t = message_renamed t
  sorted_renamed TamNat t = natural_renamed t
  sorted_renamed Node t = basic_renamed Node 110 t

  -- the arguments matter only by there being some
  at_renamed : (s : Sort) (f : Symbol) (ts : Trees) (a b c : Bool) → refinable_at s f (renames r ts) a b c ≡ refinable_at s f ts a b c
  unfolding substitute
  at_renamed s addition ts a b c = refl
  at_renamed s frame ts a b c = refl
  at_renamed s unit none a b c = refl
  at_renamed s unit (more t ts) a b c = refl
  at_renamed s free none a b c = refl
  at_renamed s free (more t ts) a b c = refl

  mutual
    unfolding refinable substitute

    pub refinable_renamed : (s : Sort) (t : Tree) → refinable s (rename r t) ≡ refinable s t
    refinable_renamed s (variable x) = ap (may_meet s) (h.sort_kept x)
    refinable_renamed s (atom c d) = refl
    refinable_renamed s (apply f ts) =
        rw (refinables_renamed TamNat ts, refinables_renamed Msg ts, sorted_renamed s (apply f ts)) (at_renamed s (symbol f) ts _ _ _)

    refinables_renamed : (s : Sort) (ts : Trees) → refinables s (renames r ts) ≡ refinables s ts
    refinables_renamed s none = refl
    refinables_renamed s (more t ts) = ap₂ ◌&&◌ (refinable_renamed s t) (refinables_renamed s ts)

  pub refuted_renamed : (t u : Tree) → sort_refuted (rename r t) (rename r u) ≡ sort_refuted t u
  unfolding sort_refuted
  refuted_renamed t u = rw (refinable_renamed TamNat t, refinable_renamed TamNat u, natural_renamed t, natural_renamed u)

  -- parts

  pub children_renamed : (t : Tree) → children (rename r t) ≡ renames r (children t)
  unfolding children substitute
  children_renamed (variable x) = refl
  children_renamed (atom c d) = refl
  children_renamed (apply f ts) = refl
