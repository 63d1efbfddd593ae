-- The choices at a root by its rule: the children that a firing needs, and what it makes.
use Prim.Native.Nat.{ℕ, zero, suc, ◌+◌, ◌-◌, ◌<◌}
use native.Mathlib.Omega.{arith}
use mathlib.Core.Path.{◌≡◌, refl, sym, ap, ◌∙◌, subst}
use mathlib.Core.List.{List, ◌∷◌}
use Rattle.std.specs.Prelude.{Option, Some}
use Rattle.rules.specs.Bytes.{Text}
use Rattle.rules.specs.Tree.{Tree, variable, Trees, none, more}
use Rattle.rules.specs.Substitution.{Pair}
use Rattle.rules.specs.declared.Rule.{Rule}
use Rattle.rules.specs.declared.Rule.TheVariants.{Fst, Snd, Flip, Sdec, Kdec}
use Rattle.rules.specs.Reduction.{rule_named, pair, senc, kem, constant}
use Rattle.rules.specs.Variants.{scheme, firings, firing_count, with_one, with_two, root_schemes}
use Rattle.laws.specs.Schemes.{root_count, root_at}
use Rattle.tree.specs.Cells.{next_of, fixed_name, tree_at, trees_at}
use Rattle.tree.specs.Arena.{Links}
use Rattle.tree.proofs.Decoding.{trees_none, trees_more}
use Rattle.schemes.specs.Choices.{joined_as}

-- the children of a firing
one_only : (k : ℕ) (a : Tree) (ts : Trees) → 0 < with_one k (more a ts) → ts ≡ none
one_only k a none h = refl
one_only k a (more b ts) h = absurd (omega arith)

two_only : (k : ℕ) (a b : Tree) (ts : Trees) → 0 < with_two k (more a (more b ts)) → ts ≡ none
two_only k a b none h = refl
two_only k a b (more c ts) h = absurd (omega arith)

module _ {w : List ℕ} {n : ℕ} (s : Text) (l : Links w n) where
  pub one_child : (k i : ℕ) → i < n → 0 < with_one k (trees_at s w i) → (0 < i) × (trees_at s w i ≡ more (tree_at s w i) none)
  one_child k zero q h = absurd (omega (arith, ap (with_one k) (trees_none s w 0 refl)))
  one_child k (suc i) q h =
      let e = trees_more s l (suc i) (omega arith) q in
      let p : 0 < suc i = omega arith in
      (p, e ∙ ap (more (tree_at s w (suc i))) (one_only k (tree_at s w (suc i)) (trees_at s w (next_of w (suc i))) (subst (λ (ts : Trees). 0 < with_one k ts) e h)))

  two_from : (k i j : ℕ) → 0 < i → i < n → j ≡ next_of w i → j < n → 0 < with_two k (trees_at s w i) → (0 < j) × (trees_at s w i ≡ more (tree_at s w i) (more (tree_at s w j) none))
  two_from k i zero p q e r h =
      let f = trees_more s l i p q ∙ ap (more (tree_at s w i)) (trees_none s w (next_of w i) (sym e)) in
      absurd (omega (arith, ap (with_two k) f))
  two_from k i (suc j) p q e r h =
      let o : 0 < suc j = omega arith in
      let f : trees_at s w i ≡ more (tree_at s w i) (more (tree_at s w (suc j)) (trees_at s w (next_of w (suc j)))) =
      trees_more s l i p q ∙ ap (more (tree_at s w i)) (ap (trees_at s w) (sym e) ∙ trees_more s l (suc j) o r) in
      (o, f ∙ ap (λ (ts : Trees). more (tree_at s w i) (more (tree_at s w (suc j)) ts)) (two_only k (tree_at s w i) (tree_at s w (suc j)) (trees_at s w (next_of w (suc j))) (subst (λ (ts : Trees). 0 < with_two k ts) f h)))

  pub two_children : (k i : ℕ) → i < n → 0 < with_two k (trees_at s w i) → (0 < i) × (0 < next_of w i) × (trees_at s w i ≡ more (tree_at s w i) (more (tree_at s w (next_of w i)) none))
  two_children k zero q h = absurd (omega (arith, ap (with_two k) (trees_none s w 0 refl)))
  two_children k (suc i) q h =
      let p : 0 < suc i = omega arith in
      let r = l.next (suc i) p q in
      let x = two_from k (suc i) (next_of w (suc i)) p q refl (omega arith) h in
      (p, x.0, x.1)

-- the count of choices under a rule
pub count_of : (f : Text) (ts : Trees) (o : Option Rule) → rule_named f ≡ o → root_count f ts ≡ 1 + firing_count o ts
unfolding root_count
count_of f ts o e = ap (λ (r : Option Rule). 1 + firing_count r ts) e

-- a firing, with the n-th and the next fresh variable as x and y
module _ (name : ℕ → Text) (f : Text) (es : List Pair) (n c : ℕ) {x y : Tree} (p : x ≡ variable (name n)) (q : y ≡ variable (name (n + 1))) where
  pub fst_at : {ts : Trees} (a : Tree) → rule_named f ≡ Some Fst → ts ≡ more a none → c ≡ 1 → root_at name f (joined_as ts es n) c ≡ scheme x ((a, pair x y) ∷ es) (n + 2)
  unfolding root_at root_schemes firings
  fst_at a e g h = rw (p, q, h, g, e)

  pub snd_at : {ts : Trees} (a : Tree) → rule_named f ≡ Some Snd → ts ≡ more a none → c ≡ 1 → root_at name f (joined_as ts es n) c ≡ scheme y ((a, pair x y) ∷ es) (n + 2)
  unfolding root_at root_schemes firings
  snd_at a e g h = rw (p, q, h, g, e)

  pub sdec_at : {ts : Trees} (a b : Tree) → rule_named f ≡ Some Sdec → ts ≡ more a (more b none) → c ≡ 1
      → root_at name f (joined_as ts es n) c ≡ scheme x ((a, senc x y) ∷ (b, y) ∷ es) (n + 2)
  unfolding root_at root_schemes firings
  sdec_at a b e g h = rw (p, q, h, g, e)

  pub kdec_at : {ts : Trees} (a b : Tree) → rule_named f ≡ Some Kdec → ts ≡ more a (more b none) → c ≡ 1
      → root_at name f (joined_as ts es n) c ≡ scheme x ((a, kem x y) ∷ (b, y) ∷ es) (n + 2)
  unfolding root_at root_schemes firings
  kdec_at a b e g h = rw (p, q, h, g, e)

pub flip_at : (name : ℕ → Text) (f : Text) (es : List Pair) (n c : ℕ) {ts : Trees} (a : Tree) → rule_named f ≡ Some Flip → ts ≡ more a none → 0 < c → c < 3
    → root_at name f (joined_as ts es n) c ≡ scheme (constant (fixed_name (3 - c))) ((a, constant (fixed_name c)) ∷ es) n
unfolding root_at root_schemes firings
flip_at name f es n zero a e g p q = absurd (omega arith)
flip_at name f es n (suc zero) a e g p q = rw (g, e)
flip_at name f es n (suc (suc zero)) a e g p q = rw (g, e)
flip_at name f es n (suc (suc (suc c))) a e g p q = absurd (omega arith)
