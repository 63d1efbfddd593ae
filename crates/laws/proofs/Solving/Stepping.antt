-- One step keeps the well-sorted unifiers: of the pair taken and the pairs that wait, and of what is left to solve.
--
use mathlib.Core.Path.{◌≡◌, refl, ap, sym, subst, ◌∙◌}
use mathlib.Core.Bool.{Bool, true, false, not, ◌&&◌, ◌||◌, true≢false, false≢true}
use mathlib.Core.List.{List, [], ◌∷◌}
use mathlib.Core.Logic.{◌↔◌, ◌⊎◌, inl, inr}
use Rattle.std.specs.Prelude.{Option, Some}
use Prim.Native.Nat.{ℕ, ◌+◌, ◌≤◌}
use native.Mathlib.Omega.{arith}
use lib.Dec.{leb}
use Rattle.rules.specs.Bytes.{Text, same}
use Rattle.rules.specs.Names.{variable_token}
use Rattle.rules.specs.Tree.{Tree, variable, atom, apply, Trees, none, more, head, size, sizes, same_tree, occurs, occurs_in, tamtplus}
use Rattle.rules.specs.Substitution.{Substitution, substitute, substitutes, Pair, instantiate_pairs, size_pairs}
use Rattle.rules.specs.Sums.{equivalent}
use Rattle.rules.specs.Equality.{Ac, reflexive, symmetric}
use Rattle.rules.specs.declared.Sort.{Sort}
use Rattle.rules.specs.declared.Sort.TheVariants.{TamNat}
use Rattle.rules.specs.Sorts.{variable_sort, natural, sorted, refinable, sort_refuted}
use Rattle.rules.specs.Solving.{Rest, emptied, mismatch, stuck, equation, cancel_sums, Step, goes_on, bind, fails, unknown, fits, bind_into, unless_refinable, swap_at, swap_for, swap_key, sort_check, occurs_check, eliminate_at, eliminate, if_refuted, sum_step, decompose_at, decompose, against, differ, step_at, step}
use Rattle.rules.specs.Tidy.{Arity, Tidy, TidyPairs}
use Rattle.rules.specs.Meaning.{WellSorted, Unifier, Free}
use Rattle.laws.proofs.Basics.Tests.{and_left, and_right, or_cases, same_eq, same_of_eq, ne_of_differ, tree_eq}
use Rattle.laws.proofs.Equality.Kept.{size_kept, sorted_kept}
use Rattle.laws.proofs.Equality.Building.{tidy_sound}
use Rattle.laws.proofs.Solving.Substituting.{FreePairs, free_of, ac_substitute}
use Rattle.laws.proofs.Sorts.Instances.{substitute_sorted, sorted_refinable}
use Rattle.laws.proofs.Solving.Cancelling.{RestMeans, cancel_means}
use Rattle.laws.proofs.Solving.Binding.{GoodBinding, instantiate_unifies, instantiate_gone, instantiate_free, instantiate_tidy}
use Rattle.laws.proofs.Solving.Decomposing.{NotVariable, keeps_root, differing_heads, zip_tidy, zip_free, decompose_equates}

-- the size of a variable's value is no larger than that of an instance that it occurs in

or_size : (m n k : ℕ) (a b : Bool) → (a ≡ true → k ≤ m) → (b ≡ true → k ≤ n) → (a || b) ≡ true → k ≤ m + n
or_size m n k true b p q e = let h = p refl in omega arith
or_size m n k false b p q e = let h = q e in omega arith

module _ (σ : Substitution) (x : Text) where
  mutual
    unfolding occurs substitute size

    occurs_size : (t : Tree) → occurs x t ≡ true → size (σ x) ≤ size (substitute σ t)
    occurs_size (variable y) e = let h = ap (λ (z : Text). size (σ z)) (same_eq y x e) in omega arith
    occurs_size (atom c d) e = absurd (false≢true e)
    occurs_size (apply f ts) e = let h = occurs_in_size ts e in omega arith

    occurs_in_size : (ts : Trees) → occurs_in x ts ≡ true → size (σ x) ≤ sizes (substitutes σ ts)
    occurs_in_size none e = absurd (false≢true e)
    occurs_in_size (more t ts) e =
        or_size (size (substitute σ t)) (sizes (substitutes σ ts)) (size (σ x)) (occurs x t) (occurs_in x ts) (λ d. occurs_size t d) (λ d. occurs_in_size ts d) e

  -- so a variable has no unifier with another tree that holds it
  occurs_fails : (v : Tree) → same_tree (variable x) v ≡ false → occurs x v ≡ true → Ac (σ x) (substitute σ v) → ⊥
  unfolding occurs same_tree substitute size
  occurs_fails (variable y) n o h = true≢false (sym (same_of_eq (sym (same_eq y x o))) ∙ n)
  occurs_fails (atom c d) n o h = false≢true o
  occurs_fails (apply f ts) n o h = let k = size_kept h in let l = occurs_in_size ts o in omega arith

module _ (arity : Text → ℕ) where
  pub record Continues (l r : Tree) (ps qs : List Pair) : Type 0 where
    pub tidy : TidyPairs arity qs
    pub free : (y : Text) → Free y l → Free y r → FreePairs y ps → FreePairs y qs
    pub unifiers : (σ : Substitution) → WellSorted arity σ → (Ac (substitute σ l) (substitute σ r) × Unifier σ ps) ↔ Unifier σ qs

  pub record Binds (l r : Tree) (ps : List Pair) (x : Text) (v : Tree) (qs : List Pair) : Type 0 where
    pub good : GoodBinding arity x v
    pub unheld : Free x v
    pub tidy : TidyPairs arity qs
    pub gone : FreePairs x qs
    pub free : (y : Text) → Free y l → Free y r → FreePairs y ps → (x ≡ y → ⊥) × Free y v × FreePairs y qs
    pub unifiers : (σ : Substitution) → WellSorted arity σ → (Ac (substitute σ l) (substitute σ r) × Unifier σ ps) ↔ (Ac (σ x) (substitute σ v) × Unifier σ qs)

  -- what a step says of the pair taken and the pairs that wait
  abbrev pub StepMeans : Tree → Tree → List Pair → Step → Type 0
  StepMeans l r ps (goes_on qs) = Continues l r ps qs
  StepMeans l r ps (bind x v qs) = Binds l r ps x v qs
  StepMeans l r ps fails = (σ : Substitution) → WellSorted arity σ → Ac (substitute σ l) (substitute σ r) → ⊥
  StepMeans l r ps unknown = Unit {0}

  -- the sides may be exchanged
  exchanged : (l r : Tree) (ps : List Pair) (s : Step) → StepMeans l r ps s → StepMeans r l ps s
  exchanged l r ps (goes_on qs) m = record {
    tidy = m.tidy;
    free = λ y a b c. m.free y b a c;
    unifiers = λ σ g. (λ h. (m.unifiers σ g).0 (symmetric h.0, h.1), λ h. let k = (m.unifiers σ g).1 h in (symmetric k.0, k.1));
  }
  exchanged l r ps (bind x v qs) m = record {
    good = m.good;
    unheld = m.unheld;
    tidy = m.tidy;
    gone = m.gone;
    free = λ y a b c. m.free y b a c;
    unifiers = λ σ g. (λ h. (m.unifiers σ g).0 (symmetric h.0, h.1), λ h. let k = (m.unifiers σ g).1 h in (symmetric k.0, k.1));
  }
  exchanged l r ps fails m = λ σ g h. m σ g (symmetric h)
  exchanged l r ps unknown m = tt

  module _ (counts : Arity arity) where
    -- a pair that says what the binding says
    binding_means : (l r : Tree) (ps : List Pair) (x : Text) (v : Tree) → TidyPairs arity ps → GoodBinding arity x v → Free x v
        → ((y : Text) → Free y l → Free y r → (x ≡ y → ⊥) × Free y v)
        → ((σ : Substitution) → Ac (substitute σ l) (substitute σ r) ↔ Ac (σ x) (substitute σ v))
        → StepMeans l r ps (bind_into x v ps)
    unfolding bind_into
    binding_means l r ps x v d g u f same = go (leb (size_pairs (instantiate_pairs ((x, v) ∷ []) ps)) 4096)
      where
        go : (b : Bool) → StepMeans l r ps (fits b x v (instantiate_pairs ((x, v) ∷ []) ps))
        go true = record {
          good = g;
          unheld = u;
          tidy = instantiate_tidy x v arity counts g ps d;
          gone = instantiate_gone x v u ps;
          free = λ y a b c. let k = f y a b in (k.0, k.1, instantiate_free x v y k.1 ps c);
          unifiers = λ σ w. (
            λ h. let k = (same σ).0 h.0 in (k, (instantiate_unifies x v σ k ps).0 h.1),
            λ h. ((same σ).1 h.0, (instantiate_unifies x v σ h.0 ps).1 h.1),
          );
        }
        go false = tt

    -- the key x of sort s against another tree
    module _ (x : Text) (s : Sort) (e : variable_sort x ≡ Some s) (token : variable_token x ≡ true) (ps : List Pair) (d : TidyPairs arity ps) where
      refinable_means : (v : Tree) → Tidy arity v → StepMeans (variable x) v ps (unless_refinable (refinable s v))
      unfolding substitute
      refinable_means v dv = go (refinable s v) refl
        where
          go : (b : Bool) → refinable s v ≡ b → StepMeans (variable x) v ps (unless_refinable b)
          go true p = tt
          go false p = λ σ g h. true≢false (sym (sorted_refinable arity counts σ g s v dv (sym (sorted_kept s h) ∙ (g x s e token).0)) ∙ p)

      swap_at_means : (y : Text) (r : Sort) → variable_sort y ≡ Some r → variable_token y ≡ true → (y ≡ x → ⊥)
          → StepMeans (variable x) (variable y) ps (swap_at (sorted r (variable x)) s x y ps)
      unfolding substitute
      swap_at_means y r q m n = go (sorted r (variable x)) refl
        where
          go : (b : Bool) → sorted r (variable x) ≡ b → StepMeans (variable x) (variable y) ps (swap_at b s x y ps)
          go true p = binding_means (variable x) (variable y) ps y (variable x) d (record { key_sort = r; key_has = q; value_has = p; tidy = (s, e, token) })
              (λ z. n (sym z)) (λ z a b. (b, a)) (λ σ. (symmetric, symmetric))
          go false p = refinable_means (variable y) (r, q, m)

      swap_means : (v : Tree) → Tidy arity v → Free x v → StepMeans (variable x) v ps (swap_key s x v ps)
      swap_means (variable y) dv n =
          subst (λ (o : Option Sort). StepMeans (variable x) (variable y) ps (swap_for o s x y ps)) (sym dv.1) (swap_at_means y dv.0 dv.1 dv.2 n)
      swap_means (atom c m) dv n = refinable_means (atom c m) dv
      swap_means (apply f ts) dv n = refinable_means (apply f ts) dv

      sort_check_means : (v : Tree) → Tidy arity v → Free x v → StepMeans (variable x) v ps (sort_check (sorted s v) s x v ps)
      unfolding substitute
      sort_check_means v dv n = go (sorted s v) refl
        where
          go : (b : Bool) → sorted s v ≡ b → StepMeans (variable x) v ps (sort_check b s x v ps)
          go true p =
              binding_means (variable x) v ps x v d (record { key_sort = s; key_has = e; value_has = p; tidy = dv }) n (λ y a b. (a, b)) (λ σ. (λ h. h, λ h. h))
          go false p = swap_means v dv n

      occurs_check_means : (v : Tree) → Tidy arity v → same_tree (variable x) v ≡ false → StepMeans (variable x) v ps (occurs_check (occurs x v) s x v ps)
      unfolding substitute
      occurs_check_means v dv n = go (occurs x v) refl
        where
          go : (b : Bool) → occurs x v ≡ b → StepMeans (variable x) v ps (occurs_check b s x v ps)
          go true p = λ σ g h. occurs_fails σ x v n p h
          go false p = sort_check_means v dv (free_of x v p)

    eliminate_means : (x : Text) (v : Tree) (ps : List Pair) → Tidy arity (variable x) → Tidy arity v → TidyPairs arity ps → same_tree (variable x) v ≡ false
        → StepMeans (variable x) v ps (eliminate x v ps)
    unfolding eliminate
    eliminate_means x v ps dx dv d n =
        subst (λ (o : Option Sort). StepMeans (variable x) v ps (eliminate_at o x v ps)) (sym dx.1) (occurs_check_means x dx.0 dx.1 dx.2 ps d v dv n)

    -- one side is always natural and the other can never be
    refuted_means : (l r : Tree) (ps : List Pair) → Tidy arity l → Tidy arity r → StepMeans l r ps (if_refuted (sort_refuted l r))
    unfolding sort_refuted sorted
    refuted_means l r ps dl dr = go (sort_refuted l r) refl
      where
        never : (t u : Tree) → Tidy arity t → Tidy arity u → (not (refinable TamNat t) && natural u) ≡ true → (σ : Substitution) → WellSorted arity σ
            → Ac (substitute σ t) (substitute σ u) → ⊥
        never t u dt du p σ g h =
            let n = and_left (not (refinable TamNat t)) (natural u) p in
            let m = substitute_sorted arity counts σ g TamNat u du (and_right (not (refinable TamNat t)) (natural u) p) in
            let k = sorted_refinable arity counts σ g TamNat t dt (sorted_kept TamNat h ∙ m) in
            true≢false (sym n ∙ ap not k)

        either : ((not (refinable TamNat l) && natural r) ≡ true) ⊎ ((not (refinable TamNat r) && natural l) ≡ true) → (σ : Substitution) → WellSorted arity σ
            → Ac (substitute σ l) (substitute σ r) → ⊥
        either (inl q) σ g h = never l r dl dr q σ g h
        either (inr q) σ g h = never r l dr dl q σ g (symmetric h)

        go : (b : Bool) → sort_refuted l r ≡ b → StepMeans l r ps (if_refuted b)
        go true p = either (or_cases (not (refinable TamNat l) && natural r) (not (refinable TamNat r) && natural l) p)
        go false p = tt

    sum_means : (q : Rest) (l r : Tree) (ps : List Pair) → Tidy arity l → Tidy arity r → TidyPairs arity ps → RestMeans arity (λ σ. σ) l r q
        → StepMeans l r ps (sum_step q l r ps)
    sum_means emptied l r ps dl dr d m = record { tidy = d; free = λ y a b c. c; unifiers = λ σ g. (λ h. h.1, λ h. (m σ g, h)) }
    sum_means mismatch l r ps dl dr d m = m
    sum_means stuck l r ps dl dr d m = refuted_means l r ps dl dr
    sum_means (equation a b) l r ps dl dr d m = record {
      tidy = (m.tidy_left, m.tidy_right, d);
      free = λ y f g c. let k = m.free y f g in (k.0, k.1, c);
      unifiers = λ σ g. (λ h. ((m.equates σ g).0 h.0, h.1), λ h. ((m.equates σ g).1 h.0, h.1));
    }

    decompose_means : (l r : Tree) (ps : List Pair) → NotVariable l → NotVariable r → Tidy arity l → Tidy arity r → TidyPairs arity ps
        → StepMeans l r ps (decompose l r ps)
    unfolding decompose
    decompose_means l r ps nl nr dl dr d = go (same (head l) (head r)) (same (head l) tamtplus) refl refl
      where
        go : (a b : Bool) → same (head l) (head r) ≡ a → same (head l) tamtplus ≡ b → StepMeans l r ps (decompose_at a b l r ps)
        go false b p q = λ σ g h. differing_heads σ σ l r (keeps_root σ l nl) (keeps_root σ r nr) p h
        go true true p q = sum_means (cancel_sums true equivalent l r) l r ps dl dr d
            (cancel_means arity counts equivalent (λ σ. σ) (λ σ g. g) (λ σ g t u dt du e. ac_substitute σ (tidy_sound arity counts dt du e)) l r dl dr true)
        go true false p q = record {
          tidy = zip_tidy arity l r ps dl dr d;
          free = λ y a b c. zip_free y l r ps a b c;
          unifiers =
              λ σ g. decompose_equates σ σ arity counts g g l r ps dl dr (keeps_root σ l nl) (keeps_root σ r nr) (same_eq (head l) (head r) p) (ne_of_differ q);
        }

    against_means : (l r : Tree) (ps : List Pair) → NotVariable l → Tidy arity l → Tidy arity r → TidyPairs arity ps
        → ((y : Text) → same_tree (variable y) l ≡ false) → StepMeans l r ps (against l r ps)
    against_means l (variable y) ps nl dl dr d n = exchanged (variable y) l ps (eliminate y l ps) (eliminate_means y l ps dr dl d (n y))
    against_means l (atom c m) ps nl dl dr d n = decompose_means l (atom c m) ps nl tt dl dr d
    against_means l (apply g us) ps nl dl dr d n = decompose_means l (apply g us) ps nl tt dl dr d

    differ_means : (l r : Tree) (ps : List Pair) → Tidy arity l → Tidy arity r → TidyPairs arity ps → same_tree l r ≡ false → StepMeans l r ps (differ l r ps)
    unfolding same_tree
    differ_means (variable x) r ps dl dr d n = eliminate_means x r ps dl dr d n
    differ_means (atom c m) r ps dl dr d n = against_means (atom c m) r ps tt dl dr d (λ y. refl)
    differ_means (apply f ts) r ps dl dr d n = against_means (apply f ts) r ps tt dl dr d (λ y. refl)

    pub step_means : (l r : Tree) (ps : List Pair) → Tidy arity l → Tidy arity r → TidyPairs arity ps → StepMeans l r ps (step l r ps)
    unfolding step
    step_means l r ps dl dr d = go (same_tree l r) refl
      where
        go : (b : Bool) → same_tree l r ≡ b → StepMeans l r ps (step_at b l r ps)
        go true p = record {
          tidy = d;
          free = λ y a b c. c;
          unifiers = λ σ g. (λ h. h.1, λ h. (subst (λ (u : Tree). Ac (substitute σ l) (substitute σ u)) (tree_eq l r p) reflexive, h));
        }
        go false p = differ_means l r ps dl dr d p
