-- What steps of unify and moves of match leave of the trees: a predicate that goes from applications to their arguments, and from two
-- trees to their sum, holds of what is left where it held of what was there.
use mathlib.Core.Path.{◌≡◌, refl, sym}
use mathlib.Core.Bool.{Bool, true, false}
use mathlib.Core.List.{List, [], ◌∷◌}
use Rattle.std.specs.Prelude.{Option, Some, None}
use Prim.Native.Nat.{◌≤◌}
use lib.Dec.{leb}
use Rattle.rules.specs.Bytes.{Text, same}
use Rattle.rules.specs.Tree.{Tree, variable, atom, apply, Trees, none, more, head, children, same_tree, occurs, tamtplus, plus}
use Rattle.rules.specs.Substitution.{Binding, Pair, instantiate_pairs, size_pairs}
use Rattle.rules.specs.Sums.{summands, rebuild, equivalent}
use Rattle.rules.specs.declared.Sort.{Sort}
use Rattle.rules.specs.Sorts.{variable_sort, sorted, refinable, sort_refuted}
use Rattle.rules.specs.Solving.{Step, goes_on, bind, fails, unknown, Rest, emptied, mismatch, stuck, equation, keep, remove_at, remove, cancel_at, cancel, remainder, cancel_sums, fits, bind_into, unless_refinable, swap_at, swap_for, swap_key, sort_check, occurs_check, eliminate_at, eliminate, push_children, if_refuted, sum_step, decompose_at, decompose, against, differ, step_at, step}
use Rattle.rules.specs.Matching.{Move, onward, clash, beyond, bound, agree, bind_new, sort_new, match_key, match_rest, ground_eq, match_at, match_roots, move}
use Rattle.laws.proofs.Basics.Tests.{leb_true, differ_of_ne, ne_of_differ}
use Rattle.laws.proofs.Equality.Summands.{AllOf, summands_all}
pub use Rattle.laws.proofs.Equality.Summands.{AllIn}

pub other_way : (x y : Text) → same x y ≡ false → same y x ≡ false
other_way x y e = differ_of_ne {x = y} {y = x} (λ d. ne_of_differ {x = x} {y = y} e (sym d))

-- of the left and of the right sides
abbrev pub Sides : (Tree → Type 0) → (Tree → Type 0) → List Pair → Type 0
Sides P Q [] = Unit {0}
Sides P Q (p ∷ ps) = P p.0 × Q p.1 × Sides P Q ps

pub record Kept (P : Tree → Type 0) : Type 0 where
  pub parts : (f : Text) (ts : Trees) → P (apply f ts) → AllIn P ts
  pub sums : (a b : Tree) → P a → P b → P (plus a b)

-- Sums

module _ (P : Tree → Type 0) (k : Kept P) where
  summands_keep : (t : Tree) → P t → AllOf P (summands t)
  summands_keep = summands_all P k.parts

  rebuild_keep : (t : Tree) (ts : List Tree) → P t → AllOf P ts → P (rebuild t ts)
  unfolding rebuild
  rebuild_keep t [] h g = h
  rebuild_keep t (u ∷ us) h g = k.sums t (rebuild u us) h (rebuild_keep u us g.0 g.1)

  pub children_keep : (t : Tree) → P t → AllIn P (children t)
  unfolding children
  children_keep (variable x) h = tt
  children_keep (atom c d) h = tt
  children_keep (apply f ts) h = k.parts f ts h

abbrev pub AllMaybe : (Tree → Type 0) → Option (List Tree) → Type 0
AllMaybe P None = Unit {0}
AllMaybe P (Some ts) = AllOf P ts

pub remove_keep : (P : Tree → Type 0) (test : Tree → Tree → Bool) (t : Tree) (us : List Tree) → AllOf P us → AllMaybe P (remove test t us)
unfolding remove
remove_keep P test t [] h = tt
remove_keep P test t (u ∷ us) h = go (test t u) (remove test t us) (remove_keep P test t us h.1)
  where
    kept : (o : Option (List Tree)) → AllMaybe P o → AllMaybe P (keep u o)
    kept None m = tt
    kept (Some vs) m = (h.0, m)

    go : (c : Bool) (o : Option (List Tree)) → AllMaybe P o → AllMaybe P (remove_at c u us o)
    go true o m = h.1
    go false o m = kept o m

module _ (P Q : Tree → Type 0) where
  -- what cancelling leaves of either side
  pub cancel_keep : (test : Tree → Tree → Bool) (ts us : List Tree) → AllOf P ts → AllOf Q us → AllOf P (cancel test ts us).0 × AllOf Q (cancel test ts us).1
  unfolding cancel
  cancel_keep test [] us p q = (tt, q)
  cancel_keep test (t ∷ ts) us p q = go (remove test t us) (remove_keep Q test t us q) (λ vs m. cancel_keep test ts vs p.1 m)
    where
      go : (o : Option (List Tree)) → AllMaybe Q o → ((vs : List Tree) → AllOf Q vs → AllOf P (cancel test ts vs).0 × AllOf Q (cancel test ts vs).1)
          → AllOf P (cancel_at o t (λ vs. cancel test ts vs) us).0 × AllOf Q (cancel_at o t (λ vs. cancel test ts vs) us).1
      go None m r = let c = r us q in ((p.0, c.0), c.1)
      go (Some vs) m r = r vs m

  abbrev pub KeptRest : Rest → Type 0
  KeptRest emptied = Unit {0}
  KeptRest mismatch = Unit {0}
  KeptRest stuck = Unit {0}
  KeptRest (equation a b) = P a × Q b

  pub push_keep : (ts us : Trees) (ps : List Pair) → AllIn P ts → AllIn Q us → Sides P Q ps → Sides P Q (push_children ts us ps)
  unfolding push_children
  push_keep none us ps p q h = h
  push_keep (more t ts) none ps p q h = h
  push_keep (more t ts) (more u us) ps p q h = (p.0, q.0, push_keep ts us ps p.1 q.1 h)

  module _ (kp : Kept P) (kq : Kept Q) where
    remainder_keep : (b : Bool) (ks os : List Tree) → AllOf P ks → AllOf Q os → KeptRest (remainder b ks os)
    remainder_keep b [] [] p q = tt
    remainder_keep b [] (o ∷ os) p q = tt
    remainder_keep b (k ∷ ks) [] p q = tt
    remainder_keep b (k ∷ []) (o ∷ os) p q = (p.0, rebuild_keep Q kq o os q.0 q.1)
    remainder_keep true (k ∷ j ∷ ks) (o ∷ []) p q = (rebuild_keep P kp k (j ∷ ks) p.0 p.1, q.0)
    remainder_keep false (k ∷ j ∷ ks) (o ∷ []) p q = tt
    remainder_keep true (k ∷ j ∷ ks) (o ∷ n ∷ os) p q = tt
    remainder_keep false (k ∷ j ∷ ks) (o ∷ n ∷ os) p q = tt

    pub sums_keep : (b : Bool) (test : Tree → Tree → Bool) (l r : Tree) → P l → Q r → KeptRest (cancel_sums b test l r)
    unfolding cancel_sums
    sums_keep b test l r p q =
        let c = cancel_keep test (summands l) (summands r) (summands_keep P kp l p) (summands_keep Q kq r q) in
        remainder_keep b (cancel test (summands l) (summands r)).0 (cancel test (summands l) (summands r)).1 c.0 c.1

-- what is asked of left and of right sides: their arguments, and what two sums leave
pub record KeptSides (P Q : Tree → Type 0) : Type 0 where
  pub lefts : (t : Tree) → P t → AllIn P (children t)
  pub rights : (t : Tree) → Q t → AllIn Q (children t)
  pub rests : (b : Bool) (test : Tree → Tree → Bool) (l r : Tree) → P l → Q r → KeptRest P Q (cancel_sums b test l r)

kept_sides : (P Q : Tree → Type 0) → Kept P → Kept Q → KeptSides P Q
kept_sides P Q kp kq = record { lefts = children_keep P kp; rights = children_keep Q kq; rests = sums_keep P Q kp kq }

-- One step of unify

-- a binding: of a variable that does not occur in the value, which is put into the waiting pairs, within the limit of nodes
pub record Bound (P : Tree → Type 0) (ps : List Pair) (x : Text) (v : Tree) (qs : List Pair) : Type 0 where
  pub key : P (variable x)
  pub value : P v
  pub apart : occurs x v ≡ false
  pub put : qs ≡ instantiate_pairs ((x, v) ∷ []) ps
  pub limit : size_pairs qs ≤ 4096

-- some pairs stand before those that waited
pub data OnTop (ps : List Pair) : List Pair → Type 0 where
  all_waited : OnTop ps ps
  one_before : {p : Pair} {qs : List Pair} → OnTop ps qs → OnTop ps (p ∷ qs)

push_top : (ts us : Trees) (ps : List Pair) → OnTop ps (push_children ts us ps)
unfolding push_children
push_top none us ps = all_waited
push_top (more t ts) none ps = all_waited
push_top (more t ts) (more u us) ps = one_before (push_top ts us ps)

abbrev pub KeptStep : (Tree → Type 0) → List Pair → Step → Type 0
KeptStep P ps (goes_on qs) = Sides P P qs × OnTop ps qs
KeptStep P ps (bind x v qs) = Bound P ps x v qs
KeptStep P ps fails = Unit {0}
KeptStep P ps unknown = Unit {0}

module _ (P : Tree → Type 0) (k : KeptSides P P) (ps : List Pair) (waiting : Sides P P ps) where
  into_keep : (x : Text) (v : Tree) → P (variable x) → P v → occurs x v ≡ false → KeptStep P ps (bind_into x v ps)
  unfolding bind_into
  into_keep x v p q e = go (leb (size_pairs (instantiate_pairs ((x, v) ∷ []) ps)) 4096) refl
    where
      go : (c : Bool) → leb (size_pairs (instantiate_pairs ((x, v) ∷ []) ps)) 4096 ≡ c → KeptStep P ps (fits c x v (instantiate_pairs ((x, v) ∷ []) ps))
      go true f = record { key = p; value = q; apart = e; put = refl; limit = leb_true _ 4096 f }
      go false f = tt

  unless_keep : (c : Bool) → KeptStep P ps (unless_refinable c)
  unless_keep true = tt
  unless_keep false = tt

  swap_keep : (s : Sort) (x : Text) (v : Tree) → P (variable x) → P v → occurs x v ≡ false → KeptStep P ps (swap_key s x v ps)
  unfolding occurs
  swap_keep s x (variable y) p q e = for (variable_sort y)
    where
      at : (c : Bool) → KeptStep P ps (swap_at c s x y ps)
      at true = into_keep y (variable x) q p (other_way y x e)
      at false = unless_keep (refinable s (variable y))

      for : (o : Option Sort) → KeptStep P ps (swap_for o s x y ps)
      for None = unless_keep (refinable s (variable y))
      for (Some r) = at (sorted r (variable x))
  swap_keep s x (atom c d) p q e = unless_keep (refinable s (atom c d))
  swap_keep s x (apply f ts) p q e = unless_keep (refinable s (apply f ts))

  eliminate_keep : (x : Text) (v : Tree) → P (variable x) → P v → KeptStep P ps (eliminate x v ps)
  unfolding eliminate
  eliminate_keep x v p q = go (variable_sort x)
    where
      sort : (c : Bool) (s : Sort) → occurs x v ≡ false → KeptStep P ps (sort_check c s x v ps)
      sort true s e = into_keep x v p q e
      sort false s e = swap_keep s x v p q e

      check : (c : Bool) (s : Sort) → occurs x v ≡ c → KeptStep P ps (occurs_check c s x v ps)
      check true s e = tt
      check false s e = sort (sorted s v) s e

      go : (o : Option Sort) → KeptStep P ps (eliminate_at o x v ps)
      go None = tt
      go (Some s) = check (occurs x v) s refl

  decompose_keep : (l r : Tree) → P l → P r → KeptStep P ps (decompose l r ps)
  unfolding decompose
  decompose_keep l r p q = go (same (head l) (head r)) (same (head l) tamtplus)
    where
      refuted : (c : Bool) → KeptStep P ps (if_refuted c)
      refuted true = tt
      refuted false = tt

      rest : (w : Rest) → KeptRest P P w → KeptStep P ps (sum_step w l r ps)
      rest emptied m = (waiting, all_waited)
      rest mismatch m = tt
      rest (equation a b) m = ((m.0, m.1, waiting), one_before all_waited)
      rest stuck m = refuted (sort_refuted l r)

      go : (b c : Bool) → KeptStep P ps (decompose_at b c l r ps)
      go false c = tt
      go true true = rest (cancel_sums true equivalent l r) (k.rests true equivalent l r p q)
      go true false = (push_keep P P (children l) (children r) ps (k.lefts l p) (k.rights r q) waiting, push_top (children l) (children r) ps)

  against_keep : (l r : Tree) → P l → P r → KeptStep P ps (against l r ps)
  against_keep l (variable y) p q = eliminate_keep y l q p
  against_keep l (atom c d) p q = decompose_keep l (atom c d) p q
  against_keep l (apply g us) p q = decompose_keep l (apply g us) p q

  differ_keep : (l r : Tree) → P l → P r → KeptStep P ps (differ l r ps)
  differ_keep (variable x) r p q = eliminate_keep x r p q
  differ_keep (atom c d) r p q = against_keep (atom c d) r p q
  differ_keep (apply f ts) r p q = against_keep (apply f ts) r p q

  pub step_sides : (l r : Tree) → P l → P r → KeptStep P ps (step l r ps)
  unfolding step
  step_sides l r p q = go (same_tree l r)
    where
      go : (c : Bool) → KeptStep P ps (step_at c l r ps)
      go true = (waiting, all_waited)
      go false = differ_keep l r p q

pub step_keep : (P : Tree → Type 0) → Kept P → (ps : List Pair) → Sides P P ps → (l r : Tree) → P l → P r → KeptStep P ps (step l r ps)
step_keep P k = step_sides P (kept_sides P P k k)

-- One move of match

-- the bindings as they were, or with a new variable in front
pub data Extends (P Q : Tree → Type 0) (bs : List Binding) : List Binding → Type 0 where
  unchanged : Extends P Q bs bs
  added : {x : Text} {u : Tree} → P (variable x) → Q u → bound x bs ≡ None → Extends P Q bs ((x, u) ∷ bs)

abbrev pub KeptMove : (Tree → Type 0) → (Tree → Type 0) → List Binding → Move → Type 0
KeptMove P Q bs (onward qs cs) = Sides P Q qs × Extends P Q bs cs
KeptMove P Q bs clash = Unit {0}
KeptMove P Q bs beyond = Unit {0}

module _ (P Q : Tree → Type 0) (k : KeptSides P Q) (ps : List Pair) (waiting : Sides P Q ps) (bs : List Binding) where
  key_keep : (x : Text) (u : Tree) → P (variable x) → Q u → (o : Option Tree) → bound x bs ≡ o → KeptMove P Q bs (match_key o x u ps bs)
  key_keep x u p q (Some v) e = go (equivalent v u)
    where
      go : (c : Bool) → KeptMove P Q bs (agree c ps bs)
      go true = (waiting, unchanged)
      go false = tt
  key_keep x u p q None e = for (variable_sort x)
    where
      new : (c : Bool) → KeptMove P Q bs (bind_new c x u ps bs)
      new true = (waiting, added p q e)
      new false = tt

      for : (o : Option Sort) → KeptMove P Q bs (sort_new o x u ps bs)
      for None = tt
      for (Some r) = new (sorted r u)

  roots_keep : (t u : Tree) → P t → Q u → KeptMove P Q bs (match_roots t u ps bs)
  unfolding match_roots
  roots_keep t u p q = go (same (head t) (head u)) (same (head t) tamtplus)
    where
      rest : (w : Rest) → KeptRest P Q w → KeptMove P Q bs (match_rest w ps bs)
      rest emptied m = (waiting, unchanged)
      rest mismatch m = tt
      rest (equation a b) m = ((m.0, m.1, waiting), unchanged)
      rest stuck m = tt

      go : (b c : Bool) → KeptMove P Q bs (match_at b c t u ps bs)
      go false c = tt
      go true true = rest (cancel_sums false ground_eq t u) (k.rests false ground_eq t u p q)
      go true false = (push_keep P Q (children t) (children u) ps (k.lefts t p) (k.rights u q) waiting, unchanged)

  pub move_sides : (t u : Tree) → P t → Q u → KeptMove P Q bs (move t u ps bs)
  unfolding move
  move_sides (variable x) u p q = key_keep x u p q (bound x bs) refl
  move_sides (atom c d) u p q = roots_keep (atom c d) u p q
  move_sides (apply f ts) u p q = roots_keep (apply f ts) u p q

pub move_keep : (P Q : Tree → Type 0) → Kept P → Kept Q → (ps : List Pair) → Sides P Q ps → (bs : List Binding) → (t u : Tree) → P t → Q u → KeptMove P Q bs (move t u ps bs)
move_keep P Q kp kq = move_sides P Q (kept_sides P Q kp kq)
