-- Every move of match is by a rule of matching, and the rules leave no choice, on trees as reading builds them.
use mathlib.Core.Path.{◌≡◌, refl, ap, ap₂, sym, subst, ◌∙◌}
use mathlib.Core.Bool.{Bool, true, false, ◌&&◌}
use mathlib.Core.List.{List, [], ◌∷◌}
use Rattle.std.specs.Prelude.{Option, Some, None}
use Rattle.rules.specs.Bytes.{Text, same}
use Rattle.rules.specs.Tree.{Tree, variable, atom, apply, Trees, head, children, ground, tamtplus}
use Rattle.rules.specs.Substitution.{Binding, Pair}
use Rattle.rules.specs.Sums.{summands, equivalent}
use Rattle.rules.specs.declared.Sort.{Sort}
use Rattle.rules.specs.Sorts.{variable_sort, sorted}
use Rattle.rules.specs.Solving.{remove_at, remove, cancel_at, cancel, remainder, cancel_sums, push_children}
use Rattle.rules.specs.Matching.{or_else, bound, Move, onward, clash, beyond, agree, bind_new, sort_new, match_key, match_rest, ground_eq, match_at, match_roots, move}
use Rattle.rules.specs.Tidy.{Built, BuiltPairs, BuiltBindings}
use Rattle.rules.specs.Meaning.{NoKey}
use Rattle.rules.specs.Inference.{Applies, of_atom, of_apply}
use Rattle.rules.specs.Derivation.{Subject, of_variable, of_application, Bound, newest, older, GroundCancels, done, paired, single, variable_held, PatternLeaves, sums, Matches}
use Rattle.laws.proofs.Basics.Tests.{same_eq, same_self, ne_of_differ, differ_of_ne}
use Rattle.laws.proofs.Equality.Canonical.{equivalent_sound, equivalent_complete}
use Rattle.laws.proofs.Equality.Summands.{BuiltList, summands_built}
use Rattle.laws.proofs.Solving.Keeping.{Extends, unchanged, added, KeptMove, move_keep}
use Rattle.laws.proofs.Sheets.BuiltRun.{built_kept, built_sides, sides_built, name_token}
use Rattle.laws.proofs.Solving.Decomposing.{NotVariable}
use Rattle.laws.proofs.Solving.Rules.{not_ac, Removed, removed, removes_built, pairwise, applies}
use Rattle.laws.proofs.Solving.OnlyRules.{not_equivalent, removes_only, without_only, applied_head, applied_children, pairwise_only}

-- Subjects

subject : (u : Tree) → Subject u (head u) (children u)
unfolding head children
subject (variable x) = of_variable
subject (atom c d) = of_application of_atom
subject (apply f ts) = of_application of_apply

subject_head : {u : Tree} {f : Text} {us : Trees} → Subject u f us → head u ≡ f
unfolding head
subject_head of_variable = refl
subject_head (of_application a) = applied_head a

subject_children : {u : Tree} {f : Text} {us : Trees} → Subject u f us → children u ≡ us
unfolding children
subject_children of_variable = refl
subject_children (of_application a) = applied_children a

-- Bindings

module _ (x : Text) where
  -- what a search of the bindings for x says
  abbrev Found : List Binding → Option Tree → Type 0
  Found bs None = NoKey x bs
  Found bs (Some v) = Bound x v bs

  found : (bs : List Binding) → Found bs (bound x bs)
  unfolding bound
  found [] = tt
  found (b ∷ bs) = go (same b.0 x) refl (bound x bs) (found bs)
    where
      go : (c : Bool) → same b.0 x ≡ c → (o : Option Tree) → Found bs o → Found (b ∷ bs) (or_else c b.1 o)
      go true e o f = subst (λ (z : Text). Bound x b.1 ((z, b.1) ∷ bs)) (sym (same_eq b.0 x e)) newest
      go false e None f = (ne_of_differ e, f)
      go false e (Some v) f = older (ne_of_differ e) f

  no_key : (bs : List Binding) → NoKey x bs → bound x bs ≡ None
  unfolding bound
  no_key [] h = refl
  no_key (b ∷ bs) h = ap (λ (c : Bool). or_else c b.1 (bound x bs)) (differ_of_ne h.0) ∙ no_key bs h.1

bound_only : {x : Text} {v : Tree} {bs : List Binding} → Bound x v bs → bound x bs ≡ Some v
unfolding bound
bound_only (newest {x = x} {v = v} {bs = bs}) = ap (λ (c : Bool). or_else c v (bound x bs)) (same_self x)
bound_only (older {x = x} {w = w} {bs = bs} n b) = ap (λ (c : Bool). or_else c w (bound x bs)) (differ_of_ne n) ∙ bound_only b

bound_built : {x : Text} {v : Tree} {bs : List Binding} → Bound x v bs → BuiltBindings bs → Built v
bound_built newest h = h.1
bound_built (older n b) h = bound_built b h.2

-- Cancelling

module _ (t : Tree) where
  ground_remove : ground t ≡ true → (us : List Tree) → remove ground_eq t us ≡ remove equivalent t us
  unfolding remove
  ground_remove g [] = refl
  ground_remove g (u ∷ us) = ap₂ (λ (b : Bool) (o : Option (List Tree)). remove_at (b && equivalent t u) u us o) g (ground_remove g us)

  held_remove : ground t ≡ false → (us : List Tree) → remove ground_eq t us ≡ None
  unfolding remove
  held_remove g [] = refl
  held_remove g (u ∷ us) = ap₂ (λ (b : Bool) (o : Option (List Tree)). remove_at (b && equivalent t u) u us o) g (held_remove g us)

ground_cancels : (ts us : List Tree) → BuiltList ts → BuiltList us → GroundCancels ts us (cancel ground_eq ts us).0 (cancel ground_eq ts us).1
unfolding cancel
ground_cancels [] us bt bu = done
ground_cancels (t ∷ ts) us bt bu = by_ground (ground t) refl (λ vs bv. ground_cancels ts vs bt.1 bv)
  where
    by_partner : ground t ≡ true → (o : Option (List Tree)) → Removed t bt.0 us o → ((vs : List Tree) → BuiltList vs → GroundCancels ts vs (cancel ground_eq ts vs).0 (cancel ground_eq ts vs).1)
        → GroundCancels (t ∷ ts) us (cancel_at o t (λ vs. cancel ground_eq ts vs) us).0 (cancel_at o t (λ vs. cancel ground_eq ts vs) us).1
    by_partner g None h k = single g h (k us bu)
    by_partner g (Some vs) h k = paired g h (k vs (removes_built h bu))

    by_ground : (b : Bool) → ground t ≡ b → ((vs : List Tree) → BuiltList vs → GroundCancels ts vs (cancel ground_eq ts vs).0 (cancel ground_eq ts vs).1)
        → GroundCancels (t ∷ ts) us (cancel_at (remove ground_eq t us) t (λ vs. cancel ground_eq ts vs) us).0 (cancel_at (remove ground_eq t us) t (λ vs. cancel ground_eq ts vs) us).1
    by_ground true g k = rw (ground_remove t g us) (by_partner g (remove equivalent t us) (removed t bt.0 us bu) k)
    by_ground false g k = rw (held_remove t g us) (variable_held g (k us bu))

ground_cancels_only : {ts us ks os : List Tree} → BuiltList ts → BuiltList us → GroundCancels ts us ks os → cancel ground_eq ts us ≡ (ks, os)
unfolding cancel
ground_cancels_only bt bu done = refl
ground_cancels_only bt bu (paired {t = t} {ts = ts} {us = us} g h c) =
    ap (λ (o : Option (List Tree)). cancel_at o t (λ vs. cancel ground_eq ts vs) us) (ground_remove t g us ∙ removes_only t bt.0 bu h)
    ∙ ground_cancels_only bt.1 (removes_built h bu) c
ground_cancels_only bt bu (single {t = t} {ts = ts} {us = us} g h c) =
    ap (λ (o : Option (List Tree)). cancel_at o t (λ vs. cancel ground_eq ts vs) us) (ground_remove t g us ∙ without_only t bt.0 us bu h)
    ∙ ap (λ (z : List Tree × List Tree). (t ∷ z.0, z.1)) (ground_cancels_only bt.1 bu c)
ground_cancels_only bt bu (variable_held {t = t} {ts = ts} {us = us} g c) =
    ap (λ (o : Option (List Tree)). cancel_at o t (λ vs. cancel ground_eq ts vs) us) (held_remove t g us)
    ∙ ap (λ (z : List Tree × List Tree). (t ∷ z.0, z.1)) (ground_cancels_only bt.1 bu c)

-- Every move is by a rule

module _ (u : Tree) (bu : Built u) (ps : List Pair) (bs : List Binding) where
  key_matches : (x : Text) → BuiltBindings bs → Matches (variable x) u ps bs (match_key (bound x bs) x u ps bs)
  key_matches x h = go (bound x bs) (found x bs)
    where
      agreeing : (v : Tree) → Bound x v bs → (b : Bool) → equivalent v u ≡ b → Matches (variable x) u ps bs (agree b ps bs)
      agreeing v f true e = Matches.bound_equal f (equivalent_sound (bound_built f h) bu e)
      agreeing v f false e = Matches.bound_different f (not_ac e)

      sorting : NoKey x bs → (s : Sort) → variable_sort x ≡ Some s → (b : Bool) → sorted s u ≡ b → Matches (variable x) u ps bs (bind_new b x u ps bs)
      sorting n s q true e = Matches.binds n q e
      sorting n s q false e = Matches.sort_clash n q e

      new : NoKey x bs → (o : Option Sort) → variable_sort x ≡ o → Matches (variable x) u ps bs (sort_new o x u ps bs)
      new n None q = Matches.unknown_sort n q
      new n (Some s) q = sorting n s q (sorted s u) refl

      go : (o : Option Tree) → Found x bs o → Matches (variable x) u ps bs (match_key o x u ps bs)
      go None n = new n (variable_sort x) refl
      go (Some v) f = agreeing v f (equivalent v u) refl

  module _ (t : Tree) (bt : Built t) where
    rest_matches : (ks os : List Tree) → PatternLeaves t u ks os → Matches t u ps bs (match_rest (remainder false ks os) ps bs)
    rest_matches [] [] c = Matches.nothing_left c
    rest_matches [] (o ∷ os) c = Matches.pattern_used_up c
    rest_matches (k ∷ ks) [] c = Matches.subject_used_up c
    rest_matches (k ∷ []) (o ∷ os) c = Matches.one_in_pattern c
    rest_matches (k ∷ j ∷ ks) (o ∷ []) c = Matches.several_in_pattern c
    rest_matches (k ∷ j ∷ ks) (o ∷ p ∷ os) c = Matches.several_in_pattern c

    roots_match : NotVariable t → Matches t u ps bs (match_roots t u ps bs)
    unfolding match_roots cancel_sums
    roots_match n = go (same (head t) (head u)) (same (head t) tamtplus) refl refl
      where
        pattern_named : (f : Text) → head t ≡ f → Applies t f (children t)
        pattern_named f e = subst (λ (g : Text). Applies t g (children t)) e (applies t n)

        subject_named : (f : Text) → head u ≡ f → Subject u f (children u)
        subject_named f e = subst (λ (g : Text). Subject u g (children u)) e (subject u)

        go : (a b : Bool) → same (head t) (head u) ≡ a → same (head t) tamtplus ≡ b → Matches t u ps bs (match_at a b t u ps bs)
        go false b p q = Matches.symbol_clash (applies t n) (subject u) (ne_of_differ p)
        go true true p q =
            let e = same_eq (head t) tamtplus q in
            let d = sym (same_eq (head t) (head u) p) ∙ e in
            rest_matches (cancel ground_eq (summands t) (summands u)).0 (cancel ground_eq (summands t) (summands u)).1
            (sums (pattern_named tamtplus e) (subject_named tamtplus d) (ground_cancels (summands t) (summands u) (summands_built t bt) (summands_built u bu)))
        go true false p q =
            Matches.decomposition (applies t n) (subject_named (head t) (sym (same_eq (head t) (head u) p))) (ne_of_differ q) (pairwise (children t) (children u) ps)

pub move_matches : (t u : Tree) (ps : List Pair) (bs : List Binding) → Built t → Built u → BuiltBindings bs → Matches t u ps bs (move t u ps bs)
unfolding move
move_matches (variable x) u ps bs bt bu h = key_matches u bu ps bs x h
move_matches (atom c d) u ps bs bt bu h = roots_match u bu ps bs (atom c d) bt tt
move_matches (apply f ts) u ps bs bt bu h = roots_match u bu ps bs (apply f ts) bt tt

-- What a rule gives is what the move gives

applied_move : {t u : Tree} {f g : Text} {ts us : Trees} (ps : List Pair) (bs : List Binding) → Applies t f ts → Subject u g us
    → move t u ps bs ≡ match_at (same f g) (same f tamtplus) t u ps bs
unfolding move match_roots head
applied_move {u = u} ps bs (of_atom {c} {d}) s =
    ap (λ (z : Text). match_at (same (head (atom c d)) z) (same (head (atom c d)) tamtplus) (atom c d) u ps bs) (subject_head s)
applied_move {u = u} ps bs (of_apply {f} {ts}) s = ap (λ (z : Text). match_at (same f z) (same f tamtplus) (apply f ts) u ps bs) (subject_head s)

module _ {t u : Tree} (ps : List Pair) (bs : List Binding) where
  decomposed_move : {f : Text} {ts us : Trees} → Applies t f ts → Subject u f us → ¬ (f ≡ tamtplus) → move t u ps bs ≡ onward (push_children ts us ps) bs
  decomposed_move {f} p q m =
      applied_move ps bs p q ∙ ap₂ (λ (a b : Bool). match_at a b t u ps bs) (same_self f) (differ_of_ne m)
      ∙ ap₂ (λ (vs ws : Trees). onward (push_children vs ws ps) bs) (applied_children p) (subject_children q)

  sums_move : {ks os : List Tree} → Built t → Built u → PatternLeaves t u ks os → move t u ps bs ≡ match_rest (remainder false ks os) ps bs
  unfolding cancel_sums
  sums_move bt bu (sums p q c) =
      applied_move ps bs p q ∙ ap₂ (λ (a b : Bool). match_at a b t u ps bs) (same_self tamtplus) (same_self tamtplus)
      ∙ ap (λ (z : List Tree × List Tree). match_rest (remainder false z.0 z.1) ps bs) (ground_cancels_only (summands_built t bt) (summands_built u bu) c)

module _ (x : Text) (u : Tree) (ps : List Pair) (bs : List Binding) where
  key_move : (o : Option Tree) → bound x bs ≡ o → move (variable x) u ps bs ≡ match_key o x u ps bs
  unfolding move
  key_move o e = ap (λ (z : Option Tree). match_key z x u ps bs) e

  new_move : NoKey x bs → (o : Option Sort) → variable_sort x ≡ o → move (variable x) u ps bs ≡ sort_new o x u ps bs
  new_move n o q = key_move None (no_key x bs n) ∙ ap (λ (z : Option Sort). sort_new z x u ps bs) q

  sorted_move : NoKey x bs → (s : Sort) → variable_sort x ≡ Some s → (b : Bool) → sorted s u ≡ b → move (variable x) u ps bs ≡ bind_new b x u ps bs
  sorted_move n s q b e = new_move n (Some s) q ∙ ap (λ (z : Bool). bind_new z x u ps bs) e

  bound_move : (v : Tree) → Bound x v bs → (b : Bool) → equivalent v u ≡ b → move (variable x) u ps bs ≡ agree b ps bs
  bound_move v f b e = key_move (Some v) (bound_only f) ∙ ap (λ (z : Bool). agree z ps bs) e

several : (k j o : Tree) (ks os : List Tree) (ps : List Pair) (bs : List Binding) → match_rest (remainder false (k ∷ j ∷ ks) (o ∷ os)) ps bs ≡ beyond
several k j o ks [] ps bs = refl
several k j o ks (p ∷ os) ps bs = refl

pub matches_only : {t u : Tree} {ps : List Pair} {bs : List Binding} {m : Move} → Built t → Built u → BuiltBindings bs → Matches t u ps bs m → move t u ps bs ≡ m
matches_only bt bu h (Matches.bound_equal {x = x} {v = v} {u = u} {ps = ps} {bs = bs} f e) = bound_move x u ps bs v f true (equivalent_complete e)
matches_only bt bu h (Matches.bound_different {x = x} {v = v} {u = u} {ps = ps} {bs = bs} f e) =
    bound_move x u ps bs v f false (not_equivalent (bound_built f h) bu e)
matches_only bt bu h (Matches.binds {x = x} {s = s} {u = u} {ps = ps} {bs = bs} n q e) = sorted_move x u ps bs n s q true e
matches_only bt bu h (Matches.sort_clash {x = x} {s = s} {u = u} {ps = ps} {bs = bs} n q e) = sorted_move x u ps bs n s q false e
matches_only bt bu h (Matches.unknown_sort {x = x} {u = u} {ps = ps} {bs = bs} n q) = new_move x u ps bs n None q
matches_only bt bu h (Matches.symbol_clash {t = t} {u = u} {f = f} {ps = ps} {bs = bs} p q n) =
    applied_move ps bs p q ∙ ap (λ (b : Bool). match_at b (same f tamtplus) t u ps bs) (differ_of_ne n)
matches_only bt bu h (Matches.decomposition {ps = ps} {bs = bs} p q m w) = decomposed_move ps bs p q m ∙ ap (λ (qs : List Pair). onward qs bs) (pairwise_only w)
matches_only bt bu h (Matches.nothing_left {ps = ps} {bs = bs} c) = sums_move ps bs bt bu c
matches_only bt bu h (Matches.pattern_used_up {ps = ps} {bs = bs} c) = sums_move ps bs bt bu c
matches_only bt bu h (Matches.subject_used_up {ps = ps} {bs = bs} c) = sums_move ps bs bt bu c
matches_only bt bu h (Matches.one_in_pattern {ps = ps} {bs = bs} c) = sums_move ps bs bt bu c
matches_only bt bu h (Matches.several_in_pattern {k = k} {j = j} {o = o} {ks = ks} {os = os} {ps = ps} {bs = bs} c) =
    sums_move ps bs bt bu c ∙ several k j o ks os ps bs

-- A move keeps trees as reading builds them

abbrev pub BuiltMove : Move → Type 0
BuiltMove (onward qs cs) = BuiltPairs qs × BuiltBindings cs
BuiltMove clash = Unit {0}
BuiltMove beyond = Unit {0}

values_built : {bs cs : List Binding} → Extends Built Built bs cs → BuiltBindings bs → BuiltBindings cs
values_built unchanged h = h
values_built (added v b n) h = (name_token v, b, h)

pub move_built : (t u : Tree) (ps : List Pair) (bs : List Binding) → Built t → Built u → BuiltPairs ps → BuiltBindings bs → BuiltMove (move t u ps bs)
move_built t u ps bs bt bu k h = go (move t u ps bs) (move_keep Built Built built_kept built_kept ps (built_sides ps k) bs t u bt bu)
  where
    go : (m : Move) → KeptMove Built Built bs m → BuiltMove m
    go (onward qs cs) m = (sides_built qs m.0, values_built m.1 h)
    go clash m = tt
    go beyond m = tt
