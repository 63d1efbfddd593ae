-- A step of unify keeps to the names of its variables, and a binding takes its own name away: there are at most as many bindings as
-- names.
use Prim.Native.Nat.{suc, ◌≤◌, ◌<◌}
use native.Mathlib.Omega.{arith}
use mathlib.Core.Path.{◌≡◌, refl, sym, ◌∙◌, ap, subst}
use mathlib.Core.Bool.{Bool, true, false, cond, ◌||◌, false≢true}
use mathlib.Core.List.{List, [], ◌∷◌}
use lib.ListN.{length}
use Rattle.rules.specs.Bytes.{Text, same}
use Rattle.rules.specs.Text.{is_one_of}
use Rattle.rules.specs.Tree.{Tree, variable, atom, apply, Trees, none, more, occurs, occurs_in}
use Rattle.rules.specs.Substitution.{substitute, substitutes, Pair, pick, lookup, instantiate, instantiate_pairs, size_pairs}
use Rattle.rules.specs.Solving.{Step, goes_on, bind, fails, unknown, step}
use Rattle.laws.specs.Memory.{without, Over, Overs, OverPairs}
use Rattle.laws.proofs.Basics.Tests.{or_left, or_right, neither_left, neither_right, same_eq, ne_of_differ}
use Rattle.laws.proofs.Solving.Keeping.{other_way, AllIn, Sides, Kept, KeptStep, step_keep}

-- Names that are left

without_other : (x n : Text) (ns : List Text) → same n x ≡ false → is_one_of ns n ≡ true → is_one_of (without x ns) n ≡ true
unfolding is_one_of without
without_other x n [] d e = absurd (false≢true e)
without_other x n (m ∷ ms) d e = go (same m x) refl (same n m) refl e (without_other x n ms d)
  where
    go : (a : Bool) → same m x ≡ a → (b : Bool) → same n m ≡ b → (b || is_one_of ms n) ≡ true → (is_one_of ms n ≡ true → is_one_of (without x ms) n ≡ true)
        → is_one_of (cond a (without x ms) (m ∷ without x ms)) n ≡ true
    go true p true q k ih = absurd (ne_of_differ {x = n} {y = x} d (same_eq n m q ∙ same_eq m x p))
    go true p false q k ih = ih k
    go false p true q k ih = or_left (same n m) (is_one_of (without x ms) n) q
    go false p false q k ih = ap (λ (b : Bool). same n m || b) (ih k) ∙ or_right (same n m)

without_upto : (x : Text) (ns : List Text) → length (without x ns) ≤ length ns
unfolding without
without_upto x [] = omega arith
without_upto x (m ∷ ms) = go (same m x) (without_upto x ms)
  where
    go : (b : Bool) → length (without x ms) ≤ length ms → length (cond b (without x ms) (m ∷ without x ms)) ≤ suc (length ms)
    go true h = omega arith
    go false h = omega arith

pub without_fewer : (x : Text) (ns : List Text) → is_one_of ns x ≡ true → length (without x ns) < length ns
unfolding is_one_of without
without_fewer x [] e = absurd (false≢true e)
without_fewer x (m ∷ ms) e = go (same m x) refl e (without_fewer x ms)
  where
    go : (b : Bool) → same m x ≡ b → (same x m || is_one_of ms x) ≡ true → (is_one_of ms x ≡ true → length (without x ms) < length ms)
        → length (cond b (without x ms) (m ∷ without x ms)) < suc (length ms)
    go true p k ih = let h = without_upto x ms in omega arith
    go false p k ih = let h = ih (ap (λ (b : Bool). b || is_one_of ms x) (sym (other_way m x p)) ∙ k) in omega arith

-- Trees

module _ (x : Text) (ns : List Text) where
  mutual
    unfolding occurs

    -- a tree in which the variable does not occur
    pub over_without : (t : Tree) → Over ns t → occurs x t ≡ false → Over (without x ns) t
    over_without (variable n) h e = without_other x n ns e h
    over_without (atom c d) h e = tt
    over_without (apply f ts) h e = overs_without ts h e

    overs_without : (ts : Trees) → Overs ns ts → occurs_in x ts ≡ false → Overs (without x ns) ts
    overs_without none h e = tt
    overs_without (more t ts) h e =
        (over_without t h.0 (neither_left (occurs x t) (occurs_in x ts) e), overs_without ts h.1 (neither_right (occurs x t) (occurs_in x ts) e))

  module _ (v : Tree) (o : Over (without x ns) v) where
    mutual
      unfolding substitute lookup

      -- a tree in which its value is put
      over_put : (t : Tree) → Over ns t → Over (without x ns) (instantiate ((x, v) ∷ []) t)
      over_put (variable n) h = go (same x n) refl
        where
          go : (b : Bool) → same x n ≡ b → Over (without x ns) (pick b v (variable n))
          go true e = o
          go false e = without_other x n ns (other_way x n e) h
      over_put (atom c d) h = tt
      over_put (apply f ts) h = overs_put ts h

      overs_put : (ts : Trees) → Overs ns ts → Overs (without x ns) (substitutes (lookup ((x, v) ∷ [])) ts)
      overs_put none h = tt
      overs_put (more t ts) h = (over_put t h.0, overs_put ts h.1)

    pairs_put : (ps : List Pair) → Sides (Over ns) (Over ns) ps → OverPairs (without x ns) (instantiate_pairs ((x, v) ∷ []) ps)
    unfolding instantiate_pairs
    pairs_put [] h = tt
    pairs_put (p ∷ ps) h = (over_put p.0 h.0, over_put p.1 h.1, pairs_put ps h.2)

overs_all : (ns : List Text) (ts : Trees) → Overs ns ts → AllIn (Over ns) ts
overs_all ns none h = tt
overs_all ns (more t ts) h = (h.0, overs_all ns ts h.1)

pub over_kept : (ns : List Text) → Kept (Over ns)
over_kept ns = record { parts = λ f ts h. overs_all ns ts h; sums = λ a b p q. (p, (q, tt)) }

pub sides_over : (ns : List Text) (ps : List Pair) → Sides (Over ns) (Over ns) ps → OverPairs ns ps
sides_over ns [] h = tt
sides_over ns (p ∷ ps) h = (h.0, h.1, sides_over ns ps h.2)

pub over_sides : (ns : List Text) (ps : List Pair) → OverPairs ns ps → Sides (Over ns) (Over ns) ps
over_sides ns [] h = tt
over_sides ns (p ∷ ps) h = (h.0, h.1, over_sides ns ps h.2)

-- Unify

-- x is one of the names; the names of the value and of the waiting pairs are others, and these fit the limit of nodes
pub record BindsOver (ns : List Text) (x : Text) (v : Tree) (qs : List Pair) : Type 0 where
  pub named : is_one_of ns x ≡ true
  pub fewer : length (without x ns) < length ns
  pub value : Over (without x ns) v
  pub waiting : OverPairs (without x ns) qs
  pub limit : size_pairs qs ≤ 4096

abbrev pub StepOver : List Text → Step → Type 0
StepOver ns (goes_on qs) = OverPairs ns qs
StepOver ns (bind x v qs) = BindsOver ns x v qs
StepOver ns fails = Unit {0}
StepOver ns unknown = Unit {0}

pub step_over : (ns : List Text) (l r : Tree) (ps : List Pair) → Over ns l → Over ns r → OverPairs ns ps → StepOver ns (step l r ps)
step_over ns l r ps p q h = go (step l r ps) (step_keep (Over ns) (over_kept ns) ps (over_sides ns ps h) l r p q)
  where
    go : (s : Step) → KeptStep (Over ns) ps s → StepOver ns s
    go (goes_on qs) k = sides_over ns qs k.0
    go (bind x v qs) k =
        let o = over_without x ns v k.value k.apart in
        record {
          named = k.key;
          fewer = without_fewer x ns k.key;
          value = o;
          waiting = subst (OverPairs (without x ns)) (sym k.put) (pairs_put x ns v o ps (over_sides ns ps h));
          limit = k.limit;
        }
    go fails k = tt
    go unknown k = tt
