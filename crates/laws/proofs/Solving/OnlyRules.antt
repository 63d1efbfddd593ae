-- The rules of inference leave no choice, on trees as reading builds them: what a rule gives is what the step gives. So the rules
-- keep the well-sorted unifiers of tidy pairs.
use mathlib.Core.Path.{◌≡◌, refl, ap, ap₂, sym, subst, ◌∙◌}
use mathlib.Core.Bool.{Bool, true, false}
use mathlib.Core.List.{List, [], ◌∷◌}
use mathlib.Mathlib.Data.Bool.Basic.{eq-false_of_not-eq-true, eq-true_of_not-eq-false}
use Rattle.std.specs.Prelude.{Option, Some, None}
use Prim.Native.Nat.{ℕ}
use lib.Dec.{leb}
use Rattle.rules.specs.Bytes.{Text, same}
use Rattle.rules.specs.Tree.{Tree, variable, atom, apply, Trees, head, children, same_tree, occurs, tamtplus}
use Rattle.rules.specs.Substitution.{Pair, size_pairs}
use Rattle.rules.specs.Sums.{equivalent}
use Rattle.rules.specs.Equality.{Ac}
use Rattle.rules.specs.declared.Sort.{Sort}
use Rattle.rules.specs.Sorts.{variable_sort, sorted, refinable}
use Rattle.rules.specs.Solving.{remove_at, remove, cancel_at, cancel, remainder, cancel_sums, Step, goes_on, bind, fails, unknown, fits, bind_into, unless_refinable, swap_at, swap_for, swap_key, sort_check, occurs_check, eliminate_at, eliminate, push_children, if_refuted, sum_step, decompose_at, decompose, differ, step_at, step}
use Rattle.rules.specs.Tidy.{Built, Arity, Tidy, TidyPairs}
use Rattle.rules.specs.Meaning.{Free}
use Rattle.rules.specs.Inference.{Applies, of_atom, of_apply, Pairwise, left_ends, right_ends, both_go_on, Removes, first, later, Without, Cancels, done, paired, single, SumsLeave, sums, Key, Orientable, put, Infers, Keeps}
use Rattle.laws.proofs.Basics.Tests.{true_leb, false_leb, same_self, differ_of_ne, tree_eq}
use Rattle.laws.proofs.Equality.Canonical.{equivalent_sound, equivalent_complete}
use Rattle.laws.proofs.Equality.Building.{tidy_built}
use Rattle.laws.proofs.Solving.Substituting.{free_of, free_occurs}
use Rattle.laws.proofs.Solving.Stepping.{StepMeans, step_means}
use Rattle.laws.proofs.Solving.Rules.{same_tree_self, removes_built, never_equal, refuted}
use Rattle.laws.proofs.Equality.Summands.{BuiltList, summands_built}

-- Cancelling

-- the test of Ac equality, refused
pub not_equivalent : {t u : Tree} → Built t → Built u → ¬ Ac t u → equivalent t u ≡ false
not_equivalent {t} {u} bt bu h = eq-false_of_not-eq-true (λ e. h (equivalent_sound bt bu e))

module _ (t : Tree) (bt : Built t) where
  pub removes_only : {us vs : List Tree} → BuiltList us → Removes t us vs → remove equivalent t us ≡ Some vs
  unfolding remove
  removes_only b (first {u = u} {us = us} h) = ap (λ (c : Bool). remove_at c u us (remove equivalent t us)) (equivalent_complete h)
  removes_only b (later {u = u} {us = us} n h) = rw (not_equivalent bt b.0 n, removes_only b.1 h)

  pub without_only : (us : List Tree) → BuiltList us → Without t us → remove equivalent t us ≡ None
  unfolding remove
  without_only [] b h = refl
  without_only (u ∷ us) b h = rw (not_equivalent bt b.0 h.0, without_only us b.1 h.1)

pub cancels_only : {ts us ks os : List Tree} → BuiltList ts → BuiltList us → Cancels ts us ks os → cancel equivalent ts us ≡ (ks, os)
unfolding cancel
cancels_only bt bu done = refl
cancels_only bt bu (paired {t = t} {ts = ts} {us = us} h c) =
    ap (λ (o : Option (List Tree)). cancel_at o t (λ vs. cancel equivalent ts vs) us) (removes_only t bt.0 bu h)
    ∙ cancels_only bt.1 (removes_built h bu) c
cancels_only bt bu (single {t = t} {ts = ts} {us = us} h c) =
    ap (λ (o : Option (List Tree)). cancel_at o t (λ vs. cancel equivalent ts vs) us) (without_only t bt.0 us bu h)
    ∙ ap (λ (z : List Tree × List Tree). (t ∷ z.0, z.1)) (cancels_only bt.1 bu c)

-- Applications

pub applied_head : {t : Tree} {f : Text} {ts : Trees} → Applies t f ts → head t ≡ f
unfolding head
applied_head of_atom = refl
applied_head of_apply = refl

pub applied_children : {t : Tree} {f : Text} {ts : Trees} → Applies t f ts → children t ≡ ts
unfolding children
applied_children of_atom = refl
applied_children of_apply = refl

pub pairwise_only : {ts us : Trees} {ps qs : List Pair} → Pairwise ts us ps qs → push_children ts us ps ≡ qs
unfolding push_children
pairwise_only left_ends = refl
pairwise_only right_ends = refl
pairwise_only (both_go_on {t = t} {u = u} w) = ap (λ (rs : List Pair). (t, u) ∷ rs) (pairwise_only w)

applied_differ : {l r : Tree} {f g : Text} {ts us : Trees} (ps : List Pair) → Applies l f ts → Applies r g us
    → differ l r ps ≡ decompose_at (same f g) (same f tamtplus) l r ps
unfolding decompose head
applied_differ ps of_atom of_atom = refl
applied_differ ps of_atom of_apply = refl
applied_differ ps of_apply of_atom = refl
applied_differ ps of_apply of_apply = refl

module _ {l r : Tree} (ps : List Pair) where
  different : ¬ (l ≡ r) → step l r ps ≡ differ l r ps
  unfolding step
  different n = ap (λ (b : Bool). step_at b l r ps) (eq-false_of_not-eq-true (λ e. n (tree_eq l r e)))

  applied_step : {f g : Text} {ts us : Trees} → Applies l f ts → Applies r g us → ¬ (l ≡ r) → step l r ps ≡ decompose_at (same f g) (same f tamtplus) l r ps
  applied_step p q n = different n ∙ applied_differ ps p q

  clash_step : {f g : Text} {ts us : Trees} → Applies l f ts → Applies r g us → ¬ (f ≡ g) → step l r ps ≡ fails
  clash_step {f} p q n =
      applied_step p q (λ e. n (sym (applied_head p) ∙ ap head e ∙ applied_head q)) ∙ ap (λ (b : Bool). decompose_at b (same f tamtplus) l r ps) (differ_of_ne n)

  decomposed_step : {f : Text} {ts us : Trees} → Applies l f ts → Applies r f us → ¬ (f ≡ tamtplus) → ¬ (l ≡ r)
      → step l r ps ≡ goes_on (push_children ts us ps)
  decomposed_step {f} p q m n =
      applied_step p q n ∙ ap₂ (λ (a b : Bool). decompose_at a b l r ps) (same_self f) (differ_of_ne m)
      ∙ ap₂ (λ (vs ws : Trees). goes_on (push_children vs ws ps)) (applied_children p) (applied_children q)

  sums_step : {ks os : List Tree} → Built l → Built r → SumsLeave l r ks os → step l r ps ≡ sum_step (remainder true ks os) l r ps
  unfolding cancel_sums
  sums_step bl br (sums p q n c) =
      applied_step p q n ∙ ap₂ (λ (a b : Bool). decompose_at a b l r ps) (same_self tamtplus) (same_self tamtplus)
      ∙ ap (λ (z : List Tree × List Tree). sum_step (remainder true z.0 z.1) l r ps) (cancels_only (summands_built l bl) (summands_built r br) c)

-- A variable and another tree

module _ (x : Text) (v : Tree) (ps : List Pair) where
  sort_step : (o : Option Sort) → variable_sort x ≡ o → ¬ (variable x ≡ v) → step (variable x) v ps ≡ eliminate_at o x v ps
  unfolding eliminate
  sort_step o q n = different ps n ∙ ap (λ (z : Option Sort). eliminate_at z x v ps) q

  occurrence_step : (s : Sort) → variable_sort x ≡ Some s → (b : Bool) → occurs x v ≡ b → ¬ (variable x ≡ v) → step (variable x) v ps ≡ occurs_check b s x v ps
  occurrence_step s q b e n = sort_step (Some s) q n ∙ ap (λ (z : Bool). occurs_check z s x v ps) e

  key_differs : Free x v → ¬ (variable x ≡ v)
  key_differs f e = subst (Free x) (sym e) f refl

  key_step : {s : Sort} → Key x s v → (b : Bool) → sorted s v ≡ b → step (variable x) v ps ≡ sort_check b s x v ps
  key_step {s} k b e =
      occurrence_step s k.sort false (free_occurs x v k.apart) (key_differs k.apart) ∙ ap (λ (z : Bool). sort_check z s x v ps) e

  bound_step : (b : Bool) → leb (size_pairs (put x v ps)) 4096 ≡ b → bind_into x v ps ≡ fits b x v (put x v ps)
  unfolding bind_into
  bound_step b e = ap (λ (z : Bool). fits z x v (put x v ps)) e

-- a variable in place of the key
swapped_step : (x y : Text) (s r : Sort) (ps : List Pair) → variable_sort y ≡ Some r → sorted r (variable x) ≡ true
    → swap_key s x (variable y) ps ≡ bind_into y (variable x) ps
swapped_step x y s r ps q e = ap (λ (z : Option Sort). swap_for z s x y ps) q ∙ ap (λ (b : Bool). swap_at b s x y ps) e

-- no variable in its place
unswapped_step : (x : Text) (s : Sort) (v : Tree) (ps : List Pair) → ¬ Orientable x v → swap_key s x v ps ≡ unless_refinable (refinable s v)
unswapped_step x s (variable y) ps n = go (variable_sort y) refl
  where
    by_sort : (r : Sort) → variable_sort y ≡ Some r → swap_at (sorted r (variable x)) s x y ps ≡ unless_refinable (refinable s (variable y))
    by_sort r q = ap (λ (b : Bool). swap_at b s x y ps) (eq-false_of_not-eq-true (λ e. n (r, q, e)))

    go : (o : Option Sort) → variable_sort y ≡ o → swap_for o s x y ps ≡ unless_refinable (refinable s (variable y))
    go None q = refl
    go (Some r) q = by_sort r q
unswapped_step x s (atom c d) ps n = refl
unswapped_step x s (apply f ts) ps n = refl

orient_step : {t : Tree} {f : Text} {ts : Trees} (x : Text) (ps : List Pair) → Applies t f ts → step t (variable x) ps ≡ step (variable x) t ps
unfolding step same_tree
orient_step x ps of_atom = refl
orient_step x ps of_apply = refl

-- what a rule gives is what the step gives
gives : {l r : Tree} {ps : List Pair} {a : Step} → Built l → Built r → Infers l r ps a → step l r ps ≡ a
unfolding step
gives bl br (Infers.trivial {t = t} {ps = ps}) = ap (λ (b : Bool). step_at b t t ps) (same_tree_self t)
gives bl br (Infers.symbol_clash {ps = ps} p q n) = clash_step ps p q n
gives bl br (Infers.decomposition {ps = ps} p q m n w) = decomposed_step ps p q m n ∙ ap goes_on (pairwise_only w)
gives bl br (Infers.nothing_left {ps = ps} c) = sums_step ps bl br c
gives bl br (Infers.left_used_up {ps = ps} c) = sums_step ps bl br c
gives bl br (Infers.right_used_up {ps = ps} c) = sums_step ps bl br c
gives bl br (Infers.one_on_left {ps = ps} c) = sums_step ps bl br c
gives bl br (Infers.one_on_right {ps = ps} c) = sums_step ps bl br c
gives bl br (Infers.natural_clash {l = l} {r = r} {ps = ps} c h) = sums_step ps bl br c ∙ ap if_refuted (refuted l r h)
gives bl br (Infers.several_left {l = l} {r = r} {ps = ps} c n) =
    sums_step ps bl br c ∙ ap if_refuted (eq-false_of_not-eq-true (λ e. n (never_equal l r e)))
gives bl br (Infers.unknown_sort {x = x} {v = v} {ps = ps} q n) = sort_step x v ps None q n
gives bl br (Infers.occurs_check {x = x} {s = s} {v = v} {ps = ps} q n f) =
    occurrence_step x v ps s q true (eq-true_of_not-eq-false (λ e. f (free_of x v e))) n
gives bl br (Infers.variable_elimination {x = x} {v = v} {ps = ps} k e h) = key_step x v ps k true e ∙ bound_step x v ps true (true_leb _ _ h)
gives bl br (Infers.over_limit {x = x} {v = v} {ps = ps} k e h) = key_step x v ps k true e ∙ bound_step x v ps false (false_leb _ _ h)
gives bl br (Infers.orient {x = x} {ps = ps} p i) = orient_step x ps p ∙ gives br bl i
gives bl br (Infers.orient_variables {x = x} {y = y} {s = s} {ps = ps} k e t i) =
    key_step x (variable y) ps k false e ∙ swapped_step x y s t.0 ps t.1 t.2
    ∙ sym (key_step y (variable x) ps (record { sort = t.1; apart = λ z. k.apart (sym z) }) true t.2) ∙ gives br bl i
gives bl br (Infers.sort_clash {x = x} {s = s} {v = v} {ps = ps} k e n h) = key_step x v ps k false e ∙ unswapped_step x s v ps n ∙ ap unless_refinable h
gives bl br (Infers.sort_undecided {x = x} {s = s} {v = v} {ps = ps} k e n h) = key_step x v ps k false e ∙ unswapped_step x s v ps n ∙ ap unless_refinable h

pub infers_only : {l r : Tree} {ps : List Pair} {a : Step} → Built l → Built r → Infers l r ps a → a ≡ step l r ps
infers_only bl br i = sym (gives bl br i)

-- so a rule keeps the well-sorted unifiers

module _ (arity : Text → ℕ) (counts : Arity arity) where
  keeps : (l r : Tree) (ps : List Pair) (a : Step) → StepMeans arity l r ps a → Keeps arity l r ps a
  keeps l r ps (goes_on qs) m = m.unifiers
  keeps l r ps (bind x v qs) m = m.unifiers
  keeps l r ps fails m = λ σ g u. m σ g u.0
  keeps l r ps unknown m = tt

  pub infers_keeps : {l r : Tree} {ps : List Pair} {a : Step} → Tidy arity l → Tidy arity r → TidyPairs arity ps → Infers l r ps a → Keeps arity l r ps a
  infers_keeps {l} {r} {ps} {a} dl dr d i =
      let e = infers_only (tidy_built arity counts l dl) (tidy_built arity counts r dr) i in
      keeps l r ps a (subst (StepMeans arity l r ps) (sym e) (step_means arity counts l r ps dl dr d))
