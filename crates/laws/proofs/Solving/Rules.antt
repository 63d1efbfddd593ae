-- Every step is by a rule of inference, on trees as reading builds them.
use mathlib.Core.Path.{◌≡◌, refl, ap, sym, subst, ◌∙◌}
use mathlib.Core.Bool.{Bool, true, false, not, ◌&&◌, true≢false}
use mathlib.Core.List.{List, [], ◌∷◌}
use mathlib.Core.Logic.{◌⊎◌, inl, inr}
use Rattle.std.specs.Prelude.{Option, Some, None}
use Prim.Native.Nat.{ℕ}
use native.Mathlib.Omega.{arith}
use lib.Dec.{leb}
use borrow.Author.Tests.{not-true}
use Rattle.rules.specs.Bytes.{Text, same}
use Rattle.rules.specs.Tree.{Tree, variable, atom, apply, Trees, none, more, head, children, same_tree, same_trees, occurs, tamtplus}
use Rattle.rules.specs.Substitution.{Pair, size_pairs}
use Rattle.rules.specs.Sums.{summands, equivalent}
use Rattle.rules.specs.Equality.{Ac}
use Rattle.rules.specs.declared.Sort.{Sort}
use Rattle.rules.specs.declared.Sort.TheVariants.{TamNat}
use Rattle.rules.specs.Sorts.{variable_sort, natural, sorted, refinable, sort_refuted}
use Rattle.rules.specs.Solving.{remove_at, remove, cancel_at, cancel, remainder, cancel_sums, goes_on, fits, bind_into, unless_refinable, swap_at, swap_for, swap_key, sort_check, occurs_check, eliminate_at, eliminate, push_children, if_refuted, sum_step, decompose_at, decompose, differ, step_at, step}
use Rattle.rules.specs.Tidy.{Built}
use Rattle.rules.specs.Inference.{Applies, of_atom, of_apply, Pairwise, left_ends, right_ends, both_go_on, Removes, first, later, Without, Cancels, done, paired, single, SumsLeave, sums, NeverEqual, Key, Orientable, put, Infers}
use Rattle.laws.proofs.Basics.Tests.{and_left, and_right, and_both, or_cases, or_right, eqb_self, leb_true, leb_false, same_eq, same_self, ne_of_differ, tree_eq}
use Rattle.laws.proofs.Equality.Canonical.{equivalent_sound, equivalent_complete}
use Rattle.laws.proofs.Solving.Substituting.{free_of, free_occurs}
use Rattle.laws.proofs.Solving.Decomposing.{NotVariable}
use Rattle.laws.proofs.Equality.Summands.{BuiltList, summands_built}

-- Tests

pub not_ac : {t u : Tree} → equivalent t u ≡ false → ¬ Ac t u
not_ac e h = true≢false (sym (equivalent_complete h) ∙ e)

mutual
  unfolding same_tree

  pub same_tree_self : (t : Tree) → same_tree t t ≡ true
  same_tree_self (variable x) = same_self x
  same_tree_self (atom c d) = and_both _ _ (eqb_self c) (same_self d)
  same_tree_self (apply f ts) = and_both _ _ (same_self f) (same_trees_self ts)

  same_trees_self : (ts : Trees) → same_trees ts ts ≡ true
  same_trees_self none = refl
  same_trees_self (more t ts) = and_both _ _ (same_tree_self t) (same_trees_self ts)

-- Cancelling

module _ (t : Tree) (bt : Built t) where
  -- what taking t out of a list gives
  abbrev pub Removed : List Tree → Option (List Tree) → Type 0
  Removed us None = Without t us
  Removed us (Some vs) = Removes t us vs

  pub removed : (us : List Tree) → BuiltList us → Removed us (remove equivalent t us)
  unfolding remove
  removed [] b = tt
  removed (u ∷ us) b = go (equivalent t u) refl (remove equivalent t us) (removed us b.1)
    where
      go : (c : Bool) → equivalent t u ≡ c → (o : Option (List Tree)) → Removed us o → Removed (u ∷ us) (remove_at c u us o)
      go true e o h = first (equivalent_sound bt b.0 e)
      go false e None h = (not_ac e, h)
      go false e (Some vs) h = later (not_ac e) h

pub removes_built : {t : Tree} {us vs : List Tree} → Removes t us vs → BuiltList us → BuiltList vs
removes_built (first h) b = b.1
removes_built (later n h) b = (b.0, removes_built h b.1)

cancels : (ts us : List Tree) → BuiltList ts → BuiltList us → Cancels ts us (cancel equivalent ts us).0 (cancel equivalent ts us).1
unfolding cancel
cancels [] us bt bu = done
cancels (t ∷ ts) us bt bu = go (remove equivalent t us) (removed t bt.0 us bu) (λ vs bv. cancels ts vs bt.1 bv)
  where
    go : (o : Option (List Tree)) → Removed t bt.0 us o
        → ((vs : List Tree) → BuiltList vs → Cancels ts vs (cancel equivalent ts vs).0 (cancel equivalent ts vs).1)
        → Cancels (t ∷ ts) us (cancel_at o t (λ vs. cancel equivalent ts vs) us).0 (cancel_at o t (λ vs. cancel equivalent ts vs) us).1
    go None h k = single h (k us bu)
    go (Some vs) h k = paired h (k vs (removes_built h bu))

-- one side is always natural and the other can never be

pub never_equal : (l r : Tree) → sort_refuted l r ≡ true → NeverEqual l r
unfolding sort_refuted
never_equal l r e = go (or_cases (not (refinable TamNat l) && natural r) (not (refinable TamNat r) && natural l) e)
  where
    one : (t u : Tree) → (not (refinable TamNat t) && natural u) ≡ true → (natural u ≡ true) × (refinable TamNat t ≡ false)
    one t u q =
        (and_right (not (refinable TamNat t)) (natural u) q, not-true (refinable TamNat t) (and_left (not (refinable TamNat t)) (natural u) q))

    go : ((not (refinable TamNat l) && natural r) ≡ true) ⊎ ((not (refinable TamNat r) && natural l) ≡ true) → NeverEqual l r
    go (inl q) = inr (one l r q)
    go (inr q) = inl (one r l q)

pub refuted : (l r : Tree) → NeverEqual l r → sort_refuted l r ≡ true
unfolding sort_refuted
refuted l r (inl h) = rw (h.0, h.1) (or_right (not (refinable TamNat l) && natural r))
refuted l r (inr h) = rw (h.0, h.1)

-- Every step is by a rule

pub pairwise : (ts us : Trees) (ps : List Pair) → Pairwise ts us ps (push_children ts us ps)
unfolding push_children
pairwise none us ps = left_ends
pairwise (more t ts) none ps = right_ends
pairwise (more t ts) (more u us) ps = both_go_on (pairwise ts us ps)

pub applies : (t : Tree) → NotVariable t → Applies t (head t) (children t)
unfolding head children
applies (variable x) n = absurd n
applies (atom c d) n = of_atom
applies (apply f ts) n = of_apply

module _ (l r : Tree) (ps : List Pair) where
  sum_infers : (ks os : List Tree) → SumsLeave l r ks os → Infers l r ps (sum_step (remainder true ks os) l r ps)
  sum_infers [] [] c = Infers.nothing_left c
  sum_infers [] (o ∷ os) c = Infers.left_used_up c
  sum_infers (k ∷ ks) [] c = Infers.right_used_up c
  sum_infers (k ∷ []) (o ∷ os) c = Infers.one_on_left c
  sum_infers (k ∷ j ∷ ks) (o ∷ []) c = Infers.one_on_right c
  sum_infers (k ∷ j ∷ ks) (o ∷ p ∷ os) c = go (sort_refuted l r) refl
    where
      go : (b : Bool) → sort_refuted l r ≡ b → Infers l r ps (if_refuted b)
      go true e = Infers.natural_clash c (never_equal l r e)
      go false e = Infers.several_left c (λ h. true≢false (sym (refuted l r h) ∙ e))

  decompose_infers : NotVariable l → NotVariable r → Built l → Built r → ¬ (l ≡ r) → Infers l r ps (decompose l r ps)
  unfolding decompose cancel_sums
  decompose_infers nl nr bl br n = go (same (head l) (head r)) (same (head l) tamtplus) refl refl
    where
      named : (t : Tree) → NotVariable t → (f : Text) → head t ≡ f → Applies t f (children t)
      named t m f e = subst (λ (g : Text). Applies t g (children t)) e (applies t m)

      go : (a b : Bool) → same (head l) (head r) ≡ a → same (head l) tamtplus ≡ b → Infers l r ps (decompose_at a b l r ps)
      go false b p q = Infers.symbol_clash (applies l nl) (applies r nr) (ne_of_differ p)
      go true true p q =
          let e = same_eq (head l) tamtplus q in
          let d = sym (same_eq (head l) (head r) p) ∙ e in
          sum_infers (cancel equivalent (summands l) (summands r)).0 (cancel equivalent (summands l) (summands r)).1
          (sums (named l nl tamtplus e) (named r nr tamtplus d) n (cancels (summands l) (summands r) (summands_built l bl) (summands_built r br)))
      go true false p q =
          Infers.decomposition (applies l nl) (named r nr (head l) (sym (same_eq (head l) (head r) p))) (ne_of_differ q) n (pairwise (children l) (children r) ps)

-- a variable and another tree
module _ (ps : List Pair) where
  binding_infers : {x : Text} {s : Sort} {v : Tree} → Key x s v → sorted s v ≡ true → Infers (variable x) v ps (bind_into x v ps)
  unfolding bind_into
  binding_infers {x} {s} {v} k e = go (leb (size_pairs (put x v ps)) 4096) refl
    where
      go : (b : Bool) → leb (size_pairs (put x v ps)) 4096 ≡ b → Infers (variable x) v ps (fits b x v (put x v ps))
      go true p = Infers.variable_elimination k e (leb_true _ _ p)
      go false p = Infers.over_limit k e (leb_false _ _ p)

  refinable_infers : {x : Text} {s : Sort} {v : Tree} → Key x s v → sorted s v ≡ false → ¬ Orientable x v → Infers (variable x) v ps (unless_refinable (refinable s v))
  refinable_infers {x} {s} {v} k e n = go (refinable s v) refl
    where
      go : (b : Bool) → refinable s v ≡ b → Infers (variable x) v ps (unless_refinable b)
      go true p = Infers.sort_undecided k e n p
      go false p = Infers.sort_clash k e n p

  swap_infers : {x : Text} {s : Sort} (v : Tree) → Key x s v → sorted s v ≡ false → Infers (variable x) v ps (swap_key s x v ps)
  swap_infers {x} {s} (variable y) k e = go (variable_sort y) refl
    where
      some_sort : (r : Sort) → variable_sort y ≡ Some r → (b : Bool) → sorted r (variable x) ≡ b → Infers (variable x) (variable y) ps (swap_at b s x y ps)
      some_sort r q true p = Infers.orient_variables k e (r, q, p) (binding_infers (record { sort = q; apart = λ z. k.apart (sym z) }) p)
      some_sort r q false p = refinable_infers k e (λ z.
          let o : Some r ≡ Some z.0 = sym q ∙ z.1 in
          let i : r ≡ z.0 = cc in
          true≢false (sym z.2 ∙ ap (λ (c : Sort). sorted c (variable x)) (sym i) ∙ p))

      go : (o : Option Sort) → variable_sort y ≡ o → Infers (variable x) (variable y) ps (swap_for o s x y ps)
      go None q = refinable_infers k e (λ z. never (sym q ∙ z.1))
        where
          never : {r : Sort} → None ≡ Some r → ⊥
          never w = let z : ◌≡◌ {A = ℕ} 0 1 = cc in omega arith
      go (Some r) q = some_sort r q (sorted r (variable x)) refl
  swap_infers (atom c d) k e = refinable_infers k e (λ z. z)
  swap_infers (apply f ts) k e = refinable_infers k e (λ z. z)

  eliminate_infers : (x : Text) (v : Tree) → ¬ (variable x ≡ v) → Infers (variable x) v ps (eliminate x v ps)
  unfolding eliminate
  eliminate_infers x v n = go (variable_sort x) refl
    where
      by_sort : {s : Sort} → Key x s v → (b : Bool) → sorted s v ≡ b → Infers (variable x) v ps (sort_check b s x v ps)
      by_sort k true p = binding_infers k p
      by_sort k false p = swap_infers v k p

      by_occurrence : (s : Sort) → variable_sort x ≡ Some s → (b : Bool) → occurs x v ≡ b → Infers (variable x) v ps (occurs_check b s x v ps)
      by_occurrence s q true p = Infers.occurs_check q n (λ f. true≢false (sym p ∙ free_occurs x v f))
      by_occurrence s q false p = by_sort (record { sort = q; apart = free_of x v p }) (sorted s v) refl

      go : (o : Option Sort) → variable_sort x ≡ o → Infers (variable x) v ps (eliminate_at o x v ps)
      go None q = Infers.unknown_sort q n
      go (Some s) q = by_occurrence s q (occurs x v) refl

  differ_infers : (l r : Tree) → Built l → Built r → ¬ (l ≡ r) → Infers l r ps (differ l r ps)
  differ_infers (variable x) r bl br n = eliminate_infers x r n
  differ_infers (atom c d) (variable y) bl br n = Infers.orient of_atom (eliminate_infers y (atom c d) (λ e. n (sym e)))
  differ_infers (atom c d) (atom b e) bl br n = decompose_infers (atom c d) (atom b e) ps tt tt bl br n
  differ_infers (atom c d) (apply g us) bl br n = decompose_infers (atom c d) (apply g us) ps tt tt bl br n
  differ_infers (apply f ts) (variable y) bl br n = Infers.orient of_apply (eliminate_infers y (apply f ts) (λ e. n (sym e)))
  differ_infers (apply f ts) (atom b e) bl br n = decompose_infers (apply f ts) (atom b e) ps tt tt bl br n
  differ_infers (apply f ts) (apply g us) bl br n = decompose_infers (apply f ts) (apply g us) ps tt tt bl br n

  pub step_infers : {l r : Tree} → Built l → Built r → Infers l r ps (step l r ps)
  unfolding step
  step_infers {l} {r} bl br = go (same_tree l r) refl
    where
      go : (b : Bool) → same_tree l r ≡ b → Infers l r ps (step_at b l r ps)
      go true e = subst (λ (u : Tree). Infers l u ps (goes_on ps)) (tree_eq l r e) Infers.trivial
      go false e = differ_infers l r bl br (λ z. true≢false (sym (subst (λ (u : Tree). same_tree l u ≡ true) z (same_tree_self l)) ∙ e))
