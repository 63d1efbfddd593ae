-- A step in an area, by the answers of its tests.
use Prim.Native.Nat.{ℕ, zero, suc, ◌+◌, ◌-◌, ◌<◌, ◌≤◌}
use mathlib.Core.Path.{◌≡◌, refl, sym, ap, subst, ◌∙◌}
use mathlib.Core.Bool.{Bool, true, false, ◌&&◌, true≢false}
use mathlib.Core.List.{List, ◌∷◌}
use native.Mathlib.Omega.{arith}
use Rattle.std.specs.Prelude.{Option, Some, None, MatchOption, IsSomeAnd, Result, Ok, Err, MatchResult, IsOkAnd}
use Rattle.rules.specs.Bytes.{Text, same}
use Rattle.rules.specs.Tree.{Tree, variable, atom, apply, head, same_tree, tamtplus}
use Rattle.rules.specs.Substitution.{Pair}
use Rattle.rules.specs.Sums.{equivalent}
use Rattle.rules.specs.declared.Ending.{Ending}
use Rattle.rules.specs.declared.Ending.TheVariants as ending
use Rattle.rules.specs.declared.Sort.{Sort}
use Rattle.rules.specs.Sorts.{sort_refuted}
use Rattle.rules.specs.Solving.{Rest, emptied, mismatch, stuck, equation, Step, goes_on, fails, cancel_sums, if_refuted, sum_step, decompose_at, decompose, step_at, step, eliminate}
use Rattle.tree.specs.declared.area.Area.{Area}
use Rattle.tree.specs.declared.kinds.Kind.TheVariants.{Variable}
use Rattle.tree.specs.Cells.{kind_of}
use Rattle.tree.specs.Areas.{cell_kind, tree_in, trees_in, CellIn, Grows}
use Rattle.tree.proofs.Keeping.{grows_same, grows_tree}
use Rattle.tree.proofs.Decoding.{Kind, application, a_variable, an_atom, kind, tree_apply, tree_atom}
use Rattle.tree.proofs.ByKind.{variable_kind}
use Rattle.elimination.specs.Stack.{Whole}
use Rattle.elimination.specs.Differing.{all_same}
use Rattle.elimination.specs.Areas.{pairs_in, ApartIn, GoesOnIn, TakenIn}
use Rattle.elimination.specs.declared.Next.{Next}
use Rattle.elimination.specs.declared.Taken.{Taken}
use Rattle.elimination.specs.declared.Taken.TheVariants as taken
use Rattle.elimination.proofs.Eliminating.{waits_stay}
use Rattle.laws.specs.Memory.{weight}
use Rattle.sums.specs.declared.striking.Cancelling.TheVariants.{Every}
use Rattle.steps.specs.Areas.{Rooted, waiting, unlike, undecided, rest_rooted, roots_at, roots, WaitingIn, RootsIn}

-- Roots

-- the step that roots make
abbrev pub rooted_step : Rooted → Tree → Tree → Step
rooted_step (waiting ps) l r = goes_on ps
rooted_step unlike l r = fails
rooted_step undecided l r = if_refuted (sort_refuted l r)

module _ (l r : Tree) (ps : List Pair) where
  sums_rooted : (d : Rest) → sum_step d l r ps ≡ rooted_step (rest_rooted d ps) l r
  sums_rooted emptied = refl
  sums_rooted mismatch = refl
  sums_rooted (equation a b) = refl
  sums_rooted stuck = refl

  rooted : decompose l r ps ≡ rooted_step (roots Every l r ps) l r
  unfolding decompose roots
  rooted = go (same (head l) (head r)) (same (head l) tamtplus)
    where
      go : (b c : Bool) → decompose_at b c l r ps ≡ rooted_step (roots_at b c Every l r ps) l r
      go false c = refl
      go true true = sums_rooted (cancel_sums true equivalent l r)
      go true false = refl

  pub decomposed : {d : Rooted} → roots Every l r ps ≡ d → decompose l r ps ≡ rooted_step d l r
  decomposed e = rooted ∙ ap (λ (d : Rooted). rooted_step d l r) e

pub goes_rooted : {a b : Area} {h st : ℕ} {k : Option ℕ} (l r : Tree) (ps : List Pair) → same_tree l r ≡ false → WaitingIn a b h (same_tree l r) (roots Every l r ps) st k → GoesOnIn a b h (decompose l r ps) st k
goes_rooted l r ps e w = record { pairs = w.pairs; is = decomposed l r ps w.is; waits = w.waits; used = w.used; apart = w.apart e }

-- more than the rules settle, by the answer of the test of sorts
pub stuck_rooted : {a b : Area} {t : Bool} (l r : ℕ) (ps : List Pair) → CellIn a l × CellIn a r → Grows a b → roots Every (tree_in a l) (tree_in a r) ps ≡ undecided
    → sort_refuted (tree_in b l) (tree_in b r) ≡ t → decompose (tree_in a l) (tree_in a r) ps ≡ if_refuted t
stuck_rooted {a} l r ps i g e f =
    let z = rw (grows_tree g l i.0.1 i.0.0, grows_tree g r i.1.1 i.1.0) at f in
    decomposed (tree_in a l) (tree_in a r) ps e ∙ ap if_refuted z

-- where it refutes nothing, or is not asked
pub decomposed_as : {Q : Next → Taken → Type 0} (a b : Area) (h l r : ℕ) (ps : List Pair) (x : Result Next Ending) (y : Result Taken Ending) → CellIn a l × CellIn a r → same_tree (tree_in a l) (tree_in a r) ≡ false
    → RootsIn a b h (same_tree (tree_in a l) (tree_in a r)) (roots Every (tree_in a l) (tree_in a r) ps) x → (x ≡ Err ending.Unsupported → sort_refuted (tree_in b l) (tree_in b r) ≡ false)
    → MatchResult x (λ n. IsOkAnd y (Q n)) (λ e. y ≡ Err e) → ((n : Next) (t : Taken) → Q n t → t ≡ taken.Next n) → TakenIn a b h (decompose (tree_in a l) (tree_in a r) ps) y
decomposed_as a b h l r ps (Ok n) (Ok z) i e w t m q = rw (q n z m) (goes_rooted (tree_in a l) (tree_in a r) ps e w)
decomposed_as a b h l r ps (Ok n) (Err d) i e w t m q = absurd m
decomposed_as a b h l r ps (Err ending.Unsupported) y i e w t m q = rw m (stuck_rooted l r ps i w.1 w.0 (t refl), w.1)
decomposed_as a b h l r ps (Err ending.Failed) y i e w t m q = rw m (decomposed (tree_in a l) (tree_in a r) ps w.0, w.1)

-- Pairs that are known to differ

module _ (t u : Tree) (ps : List Pair) where
  pub top_apart : (o : Option ℕ) → ApartIn o ((t, u) ∷ ps) → o ≡ Some 1 → same_tree t u ≡ false
  unfolding all_same
  top_apart o d e = and_true (same_tree t u) (subst (λ (k : Option ℕ). ApartIn k ((t, u) ∷ ps)) e d)
    where
      and_true : (b : Bool) → (b && true) ≡ false → b ≡ false
      and_true true f = f
      and_true false f = refl

  -- where it is one tree twice, the difference is below it
  pub rest_apart : {o : Option ℕ} (k : ℕ) → ApartIn o ((t, u) ∷ ps) → o ≡ Some k → same_tree t u ≡ true → (1 ≤ k) × ApartIn (Some (k - 1)) ps
  unfolding all_same
  rest_apart k d e f = lower k (subst (λ (o : Option ℕ). ApartIn o ((t, u) ∷ ps)) e d)
    where
      lower : (n : ℕ) → ApartIn (Some n) ((t, u) ∷ ps) → (1 ≤ n) × ApartIn (Some (n - 1)) ps
      lower zero g = absurd (true≢false g)
      lower (suc n) g =
          let z : n ≡ suc n - 1 = omega arith in
          let h : all_same n ps ≡ false = sym (ap (λ (b : Bool). b && all_same n ps) f) ∙ g in
          (omega arith, subst (λ (j : ℕ). all_same j ps ≡ false) z h)

  -- that of the pairs below it, as a closure gives it
  pub below_apart : (o p : Option ℕ) {Q : ℕ → ℕ → Type 0} → ApartIn o ((t, u) ∷ ps) → same_tree t u ≡ true → MatchOption o (p ≡ None) (λ x. IsSomeAnd p (Q x)) → ((x y : ℕ) → Q x y → y ≡ x - 1) → ApartIn p ps
  below_apart None p d e h f = subst (λ (q : Option ℕ). ApartIn q ps) (sym h) tt
  below_apart (Some x) None d e h f = absurd h
  below_apart (Some x) (Some y) d e h f = subst (λ (k : ℕ). ApartIn (Some k) ps) (sym (f x y h)) (rest_apart x d refl e).1

-- The step

abbrev NoVariable : Tree → Type 0
NoVariable (variable x) = ⊥
NoVariable (atom c d) = Unit {0}
NoVariable (apply f ts) = Unit {0}

pub no_variable_in : (a : Area) (k : ℕ) → ((v : Option Sort) → cell_kind a k ≡ Variable v → ⊥) → NoVariable (tree_in a k)
no_variable_in a k h = go (kind (kind_of a.work.now k))
  where
    go : Kind (kind_of a.work.now k) → NoVariable (tree_in a k)
    go (application e) = subst NoVariable (sym (tree_apply a.sheet.now a.work.now k e)) tt
    go (a_variable p q) = absurd (h _ (variable_kind (kind_of a.work.now k) p q))
    go (an_atom p) = subst NoVariable (sym (tree_atom a.sheet.now a.work.now k p)) tt

module _ (l r : Tree) (ps : List Pair) where
  pub same_goes : same_tree l r ≡ true → step l r ps ≡ goes_on ps
  unfolding step
  same_goes e = ap (λ (b : Bool). step_at b l r ps) e

  module _ (e : same_tree l r ≡ false) where
    differs : step l r ps ≡ step_at false l r ps
    unfolding step
    differs = ap (λ (b : Bool). step_at b l r ps) e

    pub left_eliminated : {x : Text} → l ≡ variable x → step l r ps ≡ eliminate x r ps
    left_eliminated f = differs ∙ ap (λ (t : Tree). step_at false t r ps) f

    pub right_eliminated : {x : Text} → NoVariable l → r ≡ variable x → step l r ps ≡ eliminate x l ps
    right_eliminated n f = differs ∙ ap (λ (t : Tree). step_at false l t ps) f ∙ go _ l n
      where
        go : (x : Text) (t : Tree) → NoVariable t → step_at false t (variable x) ps ≡ eliminate x t ps
        go x (variable y) m = absurd m
        go x (atom c d) m = refl
        go x (apply g ts) m = refl

    pub neither_eliminated : NoVariable l → NoVariable r → step l r ps ≡ decompose l r ps
    neither_eliminated n m = differs ∙ go l r n m
      where
        go : (t u : Tree) → NoVariable t → NoVariable u → step_at false t u ps ≡ decompose t u ps
        go (variable y) u i j = absurd i
        go (atom c d) (variable y) i j = absurd j
        go (atom c d) (atom x y) i j = refl
        go (atom c d) (apply x us) i j = refl
        go (apply g ts) (variable y) i j = absurd j
        go (apply g ts) (atom x y) i j = refl
        go (apply g ts) (apply x us) i j = refl

-- a pair of one tree twice is dropped
pub goes_dropped : (a : Area) (h stack : ℕ) {d : Step} {k : Option ℕ} → stack < a.free → Whole (trees_in a stack) → d ≡ goes_on (pairs_in a stack) → ApartIn k (pairs_in a stack) → GoesOnIn a a (h + weight (pairs_in a stack)) d stack k
goes_dropped a h stack q o e f = record { pairs = pairs_in a stack; is = e; waits = waits_stay stack (grows_same a) q o; used = omega arith; apart = f }

-- a step that is another, at a larger weight
pub taken_as : (a b : Area) (h : ℕ) {c d : Step} (r : Result Taken Ending) → c ≡ d → TakenIn a b 0 d r → TakenIn a b h c r
taken_as a b h r e x = subst (λ (z : Step). TakenIn a b h z r) (sym e) (more _ r x)
  where
    more : (z : Step) (t : Result Taken Ending) → TakenIn a b 0 z t → TakenIn a b h z t
    more z (Ok (taken.Next n)) y = record { pairs = y.pairs; is = y.is; waits = y.waits; used = omega (arith, y.used); apart = y.apart }
    more z (Ok (taken.Bind key value st)) y = y
    more z (Err e) y = y
