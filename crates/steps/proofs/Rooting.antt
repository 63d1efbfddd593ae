-- What the roots of two trees of an area leave of their pair.
use Prim.Native.Nat.{ℕ, ◌+◌, ◌*◌, ◌<◌, ◌≤◌}
use mathlib.Core.Path.{◌≡◌, refl, sym, ap, ap₂, subst, ◌∙◌}
use mathlib.Core.Bool.{Bool, true, false, true≢false, false≢true}
use mathlib.Core.List.{List, [], ◌∷◌}
use lib.Dec.{eqb}
use native.Mathlib.Omega.{arith}
use Rattle.std.specs.Prelude.{Option, None}
use Rattle.rules.specs.Bytes.{Text, same}
use Rattle.rules.specs.Names.{variable_token}
use Rattle.rules.specs.Tree.{Tree, variable, atom, apply, Trees, none, more, head, children, tamtplus}
use Rattle.rules.specs.Substitution.{Pair, flatten}
use Rattle.rules.specs.Tidy.{Built, a_variable, an_atom, a_leaf, a_list, a_sum}
use Rattle.rules.specs.Solving as rules
use Rattle.rules.specs.Solving.{cancel_sums, push_children}
use Rattle.laws.specs.Memory.{load, weight, pushed, kept_summands}
use Rattle.laws.proofs.Basics.Tests.{and_right, same_eq, same_of_eq}
use Rattle.laws.proofs.Solving.Weights.{push_weight, sum_weight}
use Rattle.tree.specs.declared.area.Area.{Area}
use Rattle.tree.specs.Areas.{tree_in, trees_in, KeepsCells, HasRoom}
use Rattle.tree.proofs.Keeping.{grows_keeps, grows_then, grows_trees, grows_length, adds_grows}
use Rattle.tree.specs.Areas.{sum_in}
use Rattle.tree.specs.Lists.{Lists}
use Rattle.elimination.specs.Area.{Room}
use Rattle.elimination.specs.Stack.{Whole, Fit, pushes}
use Rattle.elimination.specs.Areas.{pairs_in, ApartIn}
use Rattle.elimination.proofs.Eliminating.{waits_stay, waits_listed}
use Rattle.sums.specs.Summands.{every_cancels, test_of}
use Rattle.sums.specs.declared.striking.Cancelling.{Cancelling}
use Rattle.steps.specs.Areas.{EquationIn, waiting, unlike, rest_rooted, roots_at, roots, WaitingIn}
use Rattle.steps.proofs.Children.{flatten_pushes}

-- Heads

-- of the trees that reading builds, only applications have the head of sums
pub sum_apply : {t : Tree} → Built t → same (head t) tamtplus ≡ true → (ts : Trees) × (t ≡ apply tamtplus ts)
unfolding head same variable_token
sum_apply (a_variable {x} v) e = absurd (false≢true (subst (λ (n : Text). variable_token n ≡ true) (same_eq x tamtplus e) v))
sum_apply (an_atom {c} {d} l n) e = absurd (false≢true (and_right (eqb c 116) false e))
sum_apply (a_leaf {f} w) e = (none, ap (λ (n : Text). apply n none) (same_eq f tamtplus e))
sum_apply (a_list w l q b bs) e = absurd (true≢false (sym e ∙ q))
sum_apply (a_sum {a} {b} p q) e = (more a (more b none), refl)

pub sum_head : (t : Tree) → sum_in t ≡ true → same (head t) tamtplus ≡ true
unfolding head
sum_head (variable x) e = absurd cc
sum_head (atom c d) e = absurd cc
sum_head (apply f ts) e = e

head_sum : {t : Tree} → Built t → same (head t) tamtplus ≡ true → sum_in t ≡ true
head_sum b e = ap sum_in (sum_apply b e).1 ∙ same_of_eq refl

pub no_sum_head : {t : Tree} → Built t → sum_in t ≡ false → same (head t) tamtplus ≡ false
no_sum_head {t} b e = go (same (head t) tamtplus) refl
  where
    go : (c : Bool) → same (head t) tamtplus ≡ c → c ≡ false
    go true f = sym (head_sum b f) ∙ e
    go false f = refl

-- a tree with the head of a sum is a sum
pub same_sum : (l r : Tree) → Built r → same (head l) (head r) ≡ true → sum_in l ≡ true → sum_in r ≡ true
same_sum l r b h e = head_sum b (subst (λ (x : Text). same x tamtplus ≡ true) (same_eq (head l) (head r) h) (sum_head l e))

module _ (c : Cancelling) (l r : Tree) (ps : List Pair) where
  pub roots_unlike : same (head l) (head r) ≡ false → roots c l r ps ≡ unlike
  unfolding roots
  roots_unlike e = ap (λ (b : Bool). roots_at b (same (head l) tamtplus) c l r ps) e

  pub roots_sums : same (head l) (head r) ≡ true → same (head l) tamtplus ≡ true → roots c l r ps ≡ rest_rooted (cancel_sums (every_cancels c) (test_of c) l r) ps
  unfolding roots
  roots_sums e f = ap₂ (λ (x y : Bool). roots_at x y c l r ps) e f

  pub roots_children : same (head l) (head r) ≡ true → same (head l) tamtplus ≡ false → roots c l r ps ≡ waiting (push_children (children l) (children r) ps)
  unfolding roots
  roots_children e f = ap₂ (λ (x y : Bool). roots_at x y c l r ps) e f

-- Sums

module _ {a m : Area} (stack : ℕ) (q : stack < a.free) (whole : Whole (trees_in a stack)) {h : ℕ} {same : Bool} {d : rules.Rest} where
  pub sums_emptied : weight (pairs_in a stack) ≤ h → (d ≡ rules.emptied) × KeepsCells a m → WaitingIn a m h same (rest_rooted d (pairs_in a stack)) stack None
  sums_emptied p f = record {
    pairs = pairs_in a stack;
    is = ap (λ (x : rules.Rest). rest_rooted x (pairs_in a stack)) f.0;
    waits = waits_stay stack (grows_keeps f.1) q whole;
    used = omega (arith, p, f.1.end);
    apart = λ e. tt;
  }

module _ {a m : Area} (every : Bool) (test : Tree → Tree → Bool) {l r : Tree} {i j : ℕ} (fit : Fit l × Fit r) (sums : (sum_in l ≡ true) × (sum_in r ≡ true))
    (g : EquationIn a m (kept_summands test l r) (cancel_sums every test l r) i j) where
  paid : 2 * kept_summands test l r + load (tree_in m i) (tree_in m j) ≤ load l r + 2
  paid = sum_weight every test l r fit.0.built fit.1.built (sum_head l sums.0) (sum_head r sums.1) (tree_in m i) (tree_in m j) g.is

  pub pair_room : Room a.work.now (a.free + load l r + 2) → HasRoom m 2
  pair_room h = (omega (arith, g.used, grows_length g.grows, paid, h.0), omega (arith, g.used, paid, h.1))

  pub sums_paired : {b : Area} {st : ℕ} (stack : ℕ) (same : Bool) → stack < a.free → Whole (trees_in a stack) → Lists m b st (more (tree_in m i) (more (tree_in m j) (trees_in m stack))) → b.free ≡ m.free + 2
      → WaitingIn a b (load l r + weight (pairs_in a stack)) same (rest_rooted (cancel_sums every test l r) (pairs_in a stack)) st None
  unfolding flatten weight
  sums_paired stack same q whole lists end = record {
    pairs = (tree_in m i, tree_in m j) ∷ pairs_in a stack;
    is = ap (λ (x : rules.Rest). rest_rooted x (pairs_in a stack)) g.is;
    waits = record {
      grows = grows_then g.grows (adds_grows lists.adds);
      inside = lists.inside;
      trees = lists.trees ∙ ap (λ (ts : Trees). more (tree_in m i) (more (tree_in m j) ts)) (grows_trees g.grows stack q ∙ sym whole);
    };
    used = omega (arith, g.used, paid, end);
    apart = λ e. tt;
  }

-- Children

-- the cells x and y of the first children
module _ (a : Area) (l r : Tree) (x y : ℕ) (e : trees_in a x ≡ children l) (f : trees_in a y ≡ children r) (h : same (head l) (head r) ≡ true) where
  pushed_paid : (ps : List Pair) → 2 * pushed (trees_in a x) (trees_in a y) + weight (push_children (children l) (children r) ps) ≤ load l r + weight ps
  unfolding weight
  pushed_paid ps = rw (e, f) (push_weight l r ps h)

  pub children_room : Room a.work.now (a.free + load l r + 2) → HasRoom a (2 * pushed (trees_in a x) (trees_in a y))
  unfolding weight
  children_room k = let p = pushed_paid [] in (omega (arith, p, k.0), omega (arith, p, k.1))

  pub children_wait : {b : Area} {st : ℕ} {k : Option ℕ} {same : Bool} (c : Cancelling) (stack : ℕ) → Whole (trees_in a stack) → roots c l r (pairs_in a stack) ≡ waiting (push_children (children l) (children r) (pairs_in a stack))
      → Lists a b st (pushes (trees_in a x) (trees_in a y) (trees_in a stack)) → b.free ≡ a.free + 2 * pushed (trees_in a x) (trees_in a y)
      → (same ≡ false → ApartIn k (push_children (children l) (children r) (pairs_in a stack)))
      → WaitingIn a b (load l r + weight (pairs_in a stack)) same (roots c l r (pairs_in a stack)) st k
  children_wait c stack whole g lists end z = record {
    pairs = push_children (children l) (children r) (pairs_in a stack);
    is = g;
    waits = waits_listed lists (ap₂ (λ (ts us : Trees). pushes ts us (trees_in a stack)) e f ∙ ap (pushes (children l) (children r)) (sym whole) ∙ sym (flatten_pushes _ _ _));
    used = omega (arith, pushed_paid (pairs_in a stack), end);
    apart = z;
  }
