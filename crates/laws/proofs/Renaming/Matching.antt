-- Renaming goes through match, where only the subjects are renamed: the values of the bindings are renamed, with as many pairs taken.
-- A pattern may have the name of a variable over arguments; the renaming then keeps that name.
use mathlib.Core.Path.{◌≡◌, refl, sym, ◌∙◌, ap}
use mathlib.Core.Bool.{Bool, true, false, not, ◌&&◌, ◌||◌, true≢false, false≢true}
use mathlib.Core.List.{List, [], ◌∷◌, map}
use Rattle.std.specs.Prelude.{Option, Some, None}
use Prim.Native.Nat.{ℕ, zero, suc, ◌+◌}
use lib.Dec.{eqb}
use Rattle.rules.specs.Bytes.{Text, same}
use Rattle.rules.specs.Names.{variable_token}
use Rattle.rules.specs.Tree.{Tree, variable, atom, apply, Trees, none, more, head, children, ground, tamtplus}
use Rattle.rules.specs.Substitution.{substitute, Binding, Pair}
use Rattle.rules.specs.Sums.{equivalent}
use Rattle.rules.specs.declared.Sort.{Sort}
use Rattle.rules.specs.Sorts.{variable_sort, sorted}
use Rattle.rules.specs.Solving.{Rest, emptied, mismatch, stuck, equation, cancel_sums, push_children, Verdict, solved, failed, unsupported, Answer}
use Rattle.rules.specs.Matching.{or_else, bound, Move, onward, clash, beyond, agree, bind_new, sort_new, match_key, match_rest, ground_eq, match_at, match_roots, move, moved, matching, matcher}
use Rattle.rules.specs.Cover.{is_failed, covering}
use Rattle.rules.specs.Tidy.{Built, a_sum}
use Rattle.laws.proofs.Basics.Tests.{differ_of_ne}
use Rattle.laws.proofs.Equality.Building.{built_children}
use Rattle.laws.proofs.Equality.Summands.{summands_built, all_built}
use Rattle.laws.proofs.Solving.Substituting.{substitute_ground}
use Rattle.laws.proofs.Solving.Keeping.{AllIn, Sides, Kept, Extends, unchanged, added, KeptMove, move_keep}
use Rattle.laws.proofs.Sheets.BuiltRun.{BuiltValues, name_token, built_kept}
use Rattle.laws.proofs.Renaming.Renamed.{Renaming, as_variable, rename, renames, mapped, same_renamed, equivalent_renamed, sorted_renamed, children_renamed}
use Rattle.laws.proofs.Renaming.Sums.{rest_map, sums_over, renaming_over, identity_over}

-- the renaming keeps the names of applications
abbrev mutual
  pub FixesNames : (Text → Text) → Tree → Type 0
  FixesNames r (variable x) = Unit {0}
  FixesNames r (atom c d) = Unit {0}
  FixesNames r (apply f ts) = (variable_token f ≡ true → r f ≡ f) × FixNames r ts

  pub FixNames : (Text → Text) → Trees → Type 0
  FixNames r none = Unit {0}
  FixNames r (more t ts) = FixesNames r t × FixNames r ts

abbrev pub Pattern : (Text → Text) → Tree → Type 0
Pattern r t = Built t × FixesNames r t

-- the subjects of pairs, and the values of bindings, renamed
module _ (r : Text → Text) where
  abbrev pub rename_subject : Pair → Pair
  rename_subject p = (p.0, rename r p.1)

  abbrev pub rename_subjects : List Pair → List Pair
  rename_subjects ps = map rename_subject ps

  abbrev pub rename_value : Binding → Binding
  rename_value b = (b.0, rename r b.1)

  abbrev pub rename_values : List Binding → List Binding
  rename_values bs = map rename_value bs

  abbrev pub matched_verdict : Verdict → Verdict
  matched_verdict (solved bs) = solved (rename_values bs)
  matched_verdict failed = failed
  matched_verdict unsupported = unsupported

  abbrev pub matched_answer : Answer → Answer
  matched_answer a = (matched_verdict a.0, a.1)

  abbrev rename_move : Move → Move
  rename_move (onward ps bs) = onward (rename_subjects ps) (rename_values bs)
  rename_move clash = clash
  rename_move beyond = beyond

-- Patterns and subjects stay such

module _ (r : Text → Text) where
  all_patterns : (ts : Trees) → AllIn Built ts → FixNames r ts → AllIn (Pattern r) ts
  all_patterns none b n = tt
  all_patterns (more t ts) b n = ((b.0, n.0), all_patterns ts b.1 n.1)

  sum_name : variable_token tamtplus ≡ true → r tamtplus ≡ tamtplus
  unfolding variable_token
  sum_name e = absurd (false≢true e)

  pattern_kept : Kept (Pattern r)
  pattern_kept = record {
    parts = λ f ts p. all_patterns ts (all_built (built_children p.0)) p.1.1;
    sums = λ a b p q. (a_sum p.0 q.0, (sum_name, (p.1, (q.1, tt))));
  }

extended_built : {P : Tree → Type 0} {bs cs : List Binding} → Extends P Built bs cs → BuiltValues bs → BuiltValues cs
extended_built unchanged v = v
extended_built (added p q e) v = (q, v)

abbrev BuiltMaybe : Option Tree → Type 0
BuiltMaybe None = Unit {0}
BuiltMaybe (Some t) = Built t

bound_built : (x : Text) (bs : List Binding) → BuiltValues bs → BuiltMaybe (bound x bs)
unfolding bound
bound_built x [] v = tt
bound_built x (b ∷ bs) v = go (same b.0 x) (bound_built x bs v.1)
  where
    go : (c : Bool) → BuiltMaybe (bound x bs) → BuiltMaybe (or_else c b.1 (bound x bs))
    go true m = v.0
    go false m = m

-- Heads

no_token : (n y : Text) → variable_token n ≡ false → variable_token y ≡ true → same n y ≡ false
no_token n y e f = differ_of_ne (λ p. true≢false (sym f ∙ ap variable_token (sym p) ∙ e))

atom_no_token : (c : ℕ) (d : Text) → variable_token (head (atom c d)) ≡ false
unfolding variable_token head
atom_no_token c d = go (eqb c 120 || eqb c 35 || eqb c 37)
  where
    go : (b : Bool) → (b && false) ≡ false
    go true = refl
    go false = refl

module _ {r : Text → Text} (h : Renaming r) where
  name_renamed : (n y : Text) → (variable_token n ≡ true → r n ≡ n) → variable_token y ≡ true → same n (r y) ≡ same n y
  name_renamed n y k t = go (variable_token n) refl
    where
      go : (b : Bool) → variable_token n ≡ b → same n (r y) ≡ same n y
      go true e = ap (λ (m : Text). same m (r y)) (sym (k e)) ∙ same_renamed h n y
      go false e = no_token n (r y) e (h.token_kept y ∙ t) ∙ sym (no_token n y e t)

  head_renamed : (n : Text) (u : Tree) → (variable_token n ≡ true → r n ≡ n) → Built u → same n (head (rename r u)) ≡ same n (head u)
  unfolding head substitute
  head_renamed n (variable y) k q = name_renamed n y k (name_token q)
  head_renamed n (atom c d) k q = refl
  head_renamed n (apply f ts) k q = refl

  -- One move

  ground_renamed : (t u : Tree) → Built t → Built u → ground_eq t (rename r u) ≡ ground_eq t u
  ground_renamed t u p q = go (ground t) refl
    where
      go : (b : Bool) → ground t ≡ b → (b && equivalent t (rename r u)) ≡ (b && equivalent t u)
      go true e = ap (λ (v : Tree). equivalent v (rename r u)) (sym (substitute_ground (as_variable r) t e)) ∙ equivalent_renamed h t u p q
      go false e = refl

  bound_renamed : (x : Text) (bs : List Binding) → bound x (rename_values r bs) ≡ mapped (rename r) (bound x bs)
  unfolding bound
  bound_renamed x [] = refl
  bound_renamed x (b ∷ bs) = ap (or_else (same b.0 x) (rename r b.1)) (bound_renamed x bs) ∙ go (same b.0 x)
    where
      go : (c : Bool) → or_else c (rename r b.1) (mapped (rename r) (bound x bs)) ≡ mapped (rename r) (or_else c b.1 (bound x bs))
      go true = refl
      go false = refl

  module _ (ps : List Pair) (bs : List Binding) where
    key_renamed : (x : Text) (u : Tree) (o : Option Tree) → Built u → BuiltMaybe o
        → match_key (mapped (rename r) o) x (rename r u) (rename_subjects r ps) (rename_values r bs) ≡ rename_move r (match_key o x u ps bs)
    key_renamed x u (Some v) q m = ap (λ (c : Bool). agree c (rename_subjects r ps) (rename_values r bs)) (equivalent_renamed h v u m q) ∙ go (equivalent v u)
      where
        go : (c : Bool) → agree c (rename_subjects r ps) (rename_values r bs) ≡ rename_move r (agree c ps bs)
        go true = refl
        go false = refl
    key_renamed x u None q m = for (variable_sort x)
      where
        new : (c : Bool) → bind_new c x (rename r u) (rename_subjects r ps) (rename_values r bs) ≡ rename_move r (bind_new c x u ps bs)
        new true = refl
        new false = refl

        for : (o : Option Sort) → sort_new o x (rename r u) (rename_subjects r ps) (rename_values r bs) ≡ rename_move r (sort_new o x u ps bs)
        for None = refl
        for (Some s) = ap (λ (c : Bool). bind_new c x (rename r u) (rename_subjects r ps) (rename_values r bs)) (sorted_renamed h s u) ∙ new (sorted s u)

    push_subjects : (ts us : Trees) → push_children ts (renames r us) (rename_subjects r ps) ≡ rename_subjects r (push_children ts us ps)
    unfolding push_children substitute
    push_subjects none us = refl
    push_subjects (more t ts) none = refl
    push_subjects (more t ts) (more u us) = ap (λ (qs : List Pair). rename_subject r (t, u) ∷ qs) (push_subjects ts us)

    roots_renamed : (t u : Tree) → (variable_token (head t) ≡ true → r (head t) ≡ head t) → Built t → Built u
        → match_roots t (rename r u) (rename_subjects r ps) (rename_values r bs) ≡ rename_move r (match_roots t u ps bs)
    unfolding match_roots
    roots_renamed t u k p q =
        ap (λ (b : Bool). match_at b (same (head t) tamtplus) t (rename r u) (rename_subjects r ps) (rename_values r bs)) (head_renamed (head t) u k q)
        ∙ go (same (head t) (head u)) (same (head t) tamtplus)
      where
        rest : (w : Rest) → match_rest (rest_map (λ v. v) (rename r) w) (rename_subjects r ps) (rename_values r bs) ≡ rename_move r (match_rest w ps bs)
        rest emptied = refl
        rest mismatch = refl
        rest (equation a b) = refl
        rest stuck = refl

        go : (b c : Bool) → match_at b c t (rename r u) (rename_subjects r ps) (rename_values r bs) ≡ rename_move r (match_at b c t u ps bs)
        go false c = refl
        go true true =
            ap (λ (w : Rest). match_rest w (rename_subjects r ps) (rename_values r bs))
            (sums_over (λ v. v) (rename r) Built Built ground_eq ground_renamed identity_over (renaming_over r) false t u (summands_built t p) (summands_built u q))
            ∙ rest (cancel_sums false ground_eq t u)
        go true false =
            ap (λ (us : Trees). onward (push_children (children t) us (rename_subjects r ps)) (rename_values r bs)) (children_renamed h u)
            ∙ ap (λ (qs : List Pair). onward qs (rename_values r bs)) (push_subjects (children t) (children u))

    move_renamed : (t u : Tree) → Pattern r t → Built u → BuiltValues bs
        → move t (rename r u) (rename_subjects r ps) (rename_values r bs) ≡ rename_move r (move t u ps bs)
    unfolding move head
    move_renamed (variable x) u p q v =
        ap (λ (o : Option Tree). match_key o x (rename r u) (rename_subjects r ps) (rename_values r bs)) (bound_renamed x bs)
        ∙ key_renamed x u (bound x bs) q (bound_built x bs v)
    move_renamed (atom c d) u p q v = roots_renamed (atom c d) u (λ e. absurd (true≢false (sym e ∙ atom_no_token c d))) p.0 q
    move_renamed (apply f ts) u p q v = roots_renamed (apply f ts) u p.1.0 p.0 q

  -- The run

  abbrev Matches : (List Pair → List Binding → Answer) → Type 0
  Matches go = (qs : List Pair) (cs : List Binding) → Sides (Pattern r) Built qs → BuiltValues cs
      → go (rename_subjects r qs) (rename_values r cs) ≡ matched_answer r (go qs cs)

  moved_renamed : (go : List Pair → List Binding → Answer) (bs : List Binding) (m : Move) → BuiltValues bs → KeptMove (Pattern r) Built bs m → Matches go
      → moved (rename_move r m) go ≡ matched_answer r (moved m go)
  moved_renamed go bs (onward qs cs) v k f = ap (λ (a : Answer). (a.0, 1 + a.1)) (f qs cs k.0 (extended_built k.1 v))
  moved_renamed go bs clash v k f = refl
  moved_renamed go bs beyond v k f = refl

  matching_renamed : (k : ℕ) → Matches (matching k)
  unfolding matching
  matching_renamed zero ps bs s v = refl
  matching_renamed (suc k) [] bs s v = refl
  matching_renamed (suc k) (p ∷ ps) bs s v =
      ap (λ (m : Move). moved m (λ qs cs. matching k qs cs)) (move_renamed ps bs p.0 p.1 s.0 s.1 v)
      ∙ moved_renamed (λ qs cs. matching k qs cs) bs (move p.0 p.1 ps bs) v
      (move_keep (Pattern r) Built (pattern_kept r) built_kept ps s.2 bs p.0 p.1 s.0 s.1) (matching_renamed k)

  pub matcher_renamed : (k : ℕ) (ps : List Pair) → Sides (Pattern r) Built ps → matcher k (rename_subjects r ps) ≡ matched_answer r (matcher k ps)
  unfolding matcher
  matcher_renamed k ps s = matching_renamed k ps [] s tt

  pub covering_renamed : (ps : List Pair) → Sides (Pattern r) Built ps → covering (rename_subjects r ps) ≡ covering ps
  unfolding covering
  covering_renamed ps s = ap (λ (a : Answer). not (is_failed a.0)) (matcher_renamed 65536 ps s) ∙ ap not (go (matcher 65536 ps).0)
    where
      go : (w : Verdict) → is_failed (matched_verdict r w) ≡ is_failed w
      go (solved bs) = refl
      go failed = refl
      go unsupported = refl
