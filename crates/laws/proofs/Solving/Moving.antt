-- One step of match keeps the well-sorted matchers: of the pair taken, the pairs that wait and the bindings made, and of
-- what is left.
use mathlib.Core.Path.{◌≡◌, refl, ap, sym, subst, ◌∙◌}
use mathlib.Core.Bool.{Bool, true, false, true≢false}
use mathlib.Core.List.{List, [], ◌∷◌}
use mathlib.Core.Logic.{◌↔◌}
use Rattle.std.specs.Prelude.{Option, Some, None}
use Prim.Native.Nat.{ℕ}
use native.Mathlib.Omega.{arith}
use Rattle.rules.specs.Bytes.{Text, same}
use Rattle.rules.specs.Tree.{Tree, variable, atom, apply, Trees, none, more, head, children, count, ground, tamtplus}
use Rattle.rules.specs.Substitution.{Substitution, substitute, Binding, Pair, pick, lookup}
use Rattle.rules.specs.Sums.{equivalent}
use Rattle.rules.specs.Equality.{Ac, symmetric, transitive}
use Rattle.rules.specs.declared.Sort.{Sort}
use Rattle.rules.specs.Sorts.{variable_sort, sorted}
use Rattle.rules.specs.Solving.{Rest, emptied, mismatch, stuck, equation, cancel_sums, push_children}
use Rattle.rules.specs.Matching.{or_else, bound, Move, onward, clash, beyond, agree, bind_new, sort_new, match_key, match_rest, ground_eq, match_at, match_roots, move}
use Rattle.rules.specs.Tidy.{Arity, Tidy, TidyPairs}
use Rattle.rules.specs.Meaning.{WellSorted, Equates, Free, Frees, NoKey, Distinct}
pub use Rattle.rules.specs.Derivation.{Agrees}
use Rattle.laws.proofs.Basics.Tests.{and_left, and_right, same_eq, ne_of_differ}
use Rattle.laws.proofs.Equality.Kept.{sorted_kept}
use Rattle.laws.proofs.Basics.Spelling.{same_head, same_count}
use Rattle.laws.proofs.Equality.Canonical.{equivalent_complete}
use Rattle.laws.proofs.Equality.Building.{tidy_sound}
use Rattle.laws.proofs.Solving.Substituting.{substitute_nothing, substitute_ground, ground_free}
use Rattle.laws.proofs.Solving.Cancelling.{RestMeans, RestHolds, cancel_means, cancel_holds}
use Rattle.laws.proofs.Solving.Binding.{GoodBindings, good_bindings}
use Rattle.laws.proofs.Solving.Decomposing.{KeepsRoot, NotVariable, keeps_root, differing_heads, zip_tidy, decompose_equates}

-- subjects are put through the substitution that changes nothing
abbrev pub unchanged : Substitution
unchanged x = variable x

pub still : (t : Tree) → substitute unchanged t ≡ t
still t = substitute_nothing unchanged (λ x. refl) t

still_root : (t : Tree) → KeepsRoot unchanged t
unfolding substitute head children
still_root (variable x) = (refl, refl)
still_root (atom c d) = (refl, refl)
still_root (apply f ts) = (refl, refl)

-- bindings that were searched for a variable

module _ (x : Text) where
  pub record Value (bs : List Binding) (v : Tree) : Type 0 where
    pub key : NoKey x bs → ⊥
    pub given : (σ : Substitution) → Agrees σ bs → Ac (σ x) v
    pub looked_up : lookup bs x ≡ v
    pub tidy : (arity : Text → ℕ) → GoodBindings arity bs → Tidy arity v

  abbrev pub Finds : List Binding → Option Tree → Type 0
  Finds bs None = NoKey x bs
  Finds bs (Some v) = Value bs v

  finds_over : (b : Binding) (bs : List Binding) (o : Option Tree) → Finds bs o → (c : Bool) → same b.0 x ≡ c → Finds (b ∷ bs) (or_else c b.1 o)
  unfolding lookup
  finds_over b bs o f true e = record {
    key = λ n. n.0 (same_eq b.0 x e);
    given = λ σ a. subst (λ (z : Text). Ac (σ z) b.1) (same_eq b.0 x e) a.0;
    looked_up = ap (λ (c : Bool). pick c b.1 (lookup bs x)) e;
    tidy = λ arity g. g.0.tidy;
  }
  finds_over b bs None f false e = (ne_of_differ e, f)
  finds_over b bs (Some v) f false e = record {
    key = λ n. f.key n.1;
    given = λ σ a. f.given σ a.1;
    looked_up = ap (λ (c : Bool). pick c b.1 (lookup bs x)) e ∙ f.looked_up;
    tidy = λ arity g. f.tidy arity g.1;
  }

  pub finds : (bs : List Binding) → Finds bs (bound x bs)
  unfolding bound
  finds [] = tt
  finds (b ∷ bs) = finds_over b bs (bound x bs) (finds bs) (same b.0 x) refl

-- the variable is in no pattern
abbrev pub FreePatterns : Text → List Pair → Type 0
FreePatterns y [] = Unit {0}
FreePatterns y (p ∷ ps) = Free y p.0 × FreePatterns y ps

-- a variable in no pattern of the children is in no child

zip_patterns : (y : Text) (ts us : Trees) (ps : List Pair) → count ts ≡ count us → FreePatterns y (push_children ts us ps) → Frees y ts × FreePatterns y ps
unfolding push_children
zip_patterns y none none ps c f = (tt, f)
zip_patterns y none (more u us) ps c f = absurd (omega arith)
zip_patterns y (more t ts) none ps c f = absurd (omega arith)
zip_patterns y (more t ts) (more u us) ps c f = let k = zip_patterns y ts us ps (omega arith) f.1 in ((f.0, k.0), k.1)

free_children : (y : Text) (t : Tree) → NotVariable t → Frees y (children t) → Free y t
unfolding children
free_children y (variable x) n f = absurd n
free_children y (atom c d) n f = tt
free_children y (apply g ts) n f = f

module _ (arity : Text → ℕ) where
  pub record Advances (l r : Tree) (ps : List Pair) (bs : List Binding) (qs : List Pair) (cs : List Binding) : Type 0 where
    pub tidy : TidyPairs arity qs
    pub good : GoodBindings arity cs
    pub distinct : Distinct cs
    pub holds : (y : Text) → FreePatterns y qs → NoKey y cs → Free y l × FreePatterns y ps × NoKey y bs
    pub matchers : (σ : Substitution) → WellSorted arity σ
        → (Ac (substitute σ l) (substitute unchanged r) × Equates σ unchanged ps × Agrees σ bs) ↔ (Equates σ unchanged qs × Agrees σ cs)

  -- what a step says of the pair taken, the pairs that wait and the bindings
  abbrev pub MoveMeans : Tree → Tree → List Pair → List Binding → Move → Type 0
  MoveMeans l r ps bs (onward qs cs) = Advances l r ps bs qs cs
  MoveMeans l r ps bs clash = (σ : Substitution) → WellSorted arity σ → Ac (substitute σ l) (substitute unchanged r) → Agrees σ bs → ⊥
  MoveMeans l r ps bs beyond = Unit {0}

  module _ (counts : Arity arity) where
    unchanged_good : WellSorted arity unchanged
    unfolding lookup
    unchanged_good = good_bindings arity [] tt

    module _ (u : Tree) (ps : List Pair) (bs : List Binding) (du : Tidy arity u) (d : TidyPairs arity ps) (g : GoodBindings arity bs) (n : Distinct bs) where
      -- a pattern variable

      agree_means : (x : Text) (v : Tree) → Value x bs v → (b : Bool) → equivalent v u ≡ b → MoveMeans (variable x) u ps bs (agree b ps bs)
      unfolding substitute
      agree_means x v f true e = record {
        tidy = d;
        good = g;
        distinct = n;
        holds = λ y a k. ((λ z. f.key (subst (λ (w : Text). NoKey w bs) (sym z) k)), a, k);
        matchers = λ σ w. (
          λ h. (h.1, h.2),
          λ h. (subst (Ac (σ x)) (sym (still u)) (transitive (f.given σ h.1) (tidy_sound arity counts (f.tidy arity g) du e)), h.0, h.1),
        );
      }
      agree_means x v f false e = λ σ w h a. true≢false (sym (equivalent_complete (transitive (symmetric (f.given σ a)) (subst (Ac (σ x)) (still u) h))) ∙ e)

      new_means : (x : Text) (s : Sort) → variable_sort x ≡ Some s → Tidy arity (variable x) → NoKey x bs → (b : Bool) → sorted s u ≡ b
          → MoveMeans (variable x) u ps bs (bind_new b x u ps bs)
      unfolding substitute
      new_means x s q dx k true e = record {
        tidy = d;
        good = (record { key_sort = s; key_has = q; value_has = e; tidy = du }, g);
        distinct = (k, n);
        holds = λ y a m. (m.0, a, m.1);
        matchers = λ σ w. (λ h. (h.1, (subst (Ac (σ x)) (still u) h.0, h.2)), λ h. (subst (Ac (σ x)) (sym (still u)) h.1.0, h.0, h.1.1));
      }
      new_means x s q dx k false e = λ σ w h a. true≢false (sym (w x s q dx.2).0 ∙ sorted_kept s (subst (Ac (σ x)) (still u) h) ∙ e)

      key_means : (x : Text) → Tidy arity (variable x) → MoveMeans (variable x) u ps bs (match_key (bound x bs) x u ps bs)
      key_means x dx = go (bound x bs) (finds x bs)
        where
          go : (o : Option Tree) → Finds x bs o → MoveMeans (variable x) u ps bs (match_key o x u ps bs)
          go (Some v) f = agree_means x v f (equivalent v u) refl
          go None f =
              subst (λ (o : Option Sort). MoveMeans (variable x) u ps bs (sort_new o x u ps bs)) (sym dx.1) (new_means x dx.0 dx.1 dx f (sorted dx.0 u) refl)

      -- a pattern that is no variable

      module _ (l : Tree) (dl : Tidy arity l) (nl : NotVariable l) where
        rest_moves : (q : Rest) → RestMeans arity (λ σ. unchanged) l u q → RestHolds l q → MoveMeans l u ps bs (match_rest q ps bs)
        rest_moves emptied m s = record { tidy = d; good = g; distinct = n; holds = λ y a k. (s y, a, k); matchers = λ σ w. (λ h. (h.1, h.2), λ h. (m σ w, h.0, h.1)) }
        rest_moves mismatch m s = λ σ w h a. m σ w h
        rest_moves stuck m s = tt
        rest_moves (equation a b) m s = record {
          tidy = (m.tidy_left, m.tidy_right, d);
          good = g;
          distinct = n;
          holds = λ y f k. (s y f.0, f.1, k);
          matchers = λ σ w. (λ h. (((m.equates σ w).0 h.0, h.1), h.2), λ h. ((m.equates σ w).1 h.0.0, h.0.1, h.1));
        }

        passed : (σ : Substitution) → WellSorted arity σ → (t v : Tree) → Tidy arity t → Tidy arity v → ground_eq t v ≡ true
            → Ac (substitute σ t) (substitute unchanged v)
        passed σ w t v dt dv e =
            subst (λ (a : Tree). Ac a (substitute unchanged v)) (sym (substitute_ground σ t (and_left (ground t) (equivalent t v) e)))
            (subst (Ac t) (sym (still v)) (tidy_sound arity counts dt dv (and_right (ground t) (equivalent t v) e)))

        children_move : head l ≡ head u → (head l ≡ tamtplus → ⊥) → Advances l u ps bs (push_children (children l) (children u) ps) bs
        children_move e m = record {
          tidy = zip_tidy arity l u ps dl du d;
          good = g;
          distinct = n;
          holds = λ y a k. let z = zip_patterns y (children l) (children u) ps (same_count (same_head arity l u dl du e)) a in (free_children y l nl z.0, z.1, k);
          matchers = λ σ w. (λ h. ((apart σ w).0 (h.0, h.1), h.2), λ h. let z = (apart σ w).1 h.0 in (z.0, z.1, h.1));
        }
          where
            apart : (σ : Substitution) → WellSorted arity σ
                → (Ac (substitute σ l) (substitute unchanged u) × Equates σ unchanged ps) ↔ Equates σ unchanged (push_children (children l) (children u) ps)
            apart σ w = decompose_equates σ unchanged arity counts w unchanged_good l u ps dl du (keeps_root σ l nl) (still_root u) e m

        roots_mean : MoveMeans l u ps bs (match_roots l u ps bs)
        unfolding match_roots
        roots_mean = go (same (head l) (head u)) (same (head l) tamtplus) refl refl
          where
            go : (a b : Bool) → same (head l) (head u) ≡ a → same (head l) tamtplus ≡ b → MoveMeans l u ps bs (match_at a b l u ps bs)
            go false b p q = λ σ w h a. differing_heads σ unchanged l u (keeps_root σ l nl) (still_root u) p h
            go true true p q = rest_moves (cancel_sums false ground_eq l u)
                (cancel_means arity counts ground_eq (λ σ. unchanged) (λ σ w. unchanged_good) passed l u dl du false)
                (cancel_holds arity counts ground_eq (λ σ. unchanged) (λ σ w. unchanged_good) passed l u dl du (λ t v e y. ground_free y t (and_left (ground t) (equivalent t v) e)))
            go true false p q = children_move (same_eq (head l) (head u) p) (ne_of_differ q)

    pub move_means : (l r : Tree) (ps : List Pair) (bs : List Binding) → Tidy arity l → Tidy arity r → TidyPairs arity ps → GoodBindings arity bs → Distinct bs
        → MoveMeans l r ps bs (move l r ps bs)
    unfolding move
    move_means (variable x) r ps bs dl dr d g n = key_means r ps bs dr d g n x dl
    move_means (atom c m) r ps bs dl dr d g n = roots_mean r ps bs dr d g n (atom c m) dl tt
    move_means (apply f ts) r ps bs dl dr d g n = roots_mean r ps bs dr d g n (apply f ts) dl tt
