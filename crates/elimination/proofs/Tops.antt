-- The pair on top of the stack: its two cells, and the pairs below it.
use Prim.Native.Nat.{ℕ, ◌+◌, ◌<◌}
use mathlib.Core.Path.{◌≡◌, refl, sym, ap, subst, ◌∙◌}
use mathlib.Core.List.{List, [], ◌∷◌}
use native.Mathlib.Omega.{arith}
use native.Mathlib.Decide.{dec_lt}
use Rattle.rules.specs.Tree.{Tree, Trees, more}
use Rattle.rules.specs.Substitution.{Pair, flatten}
use Rattle.laws.specs.Memory.{load, weight}
use Rattle.tree.specs.declared.area.Area.{Area}
use Rattle.tree.specs.Areas.{next_in, tree_in, trees_in}
use Rattle.tree.proofs.Decoding.{trees_none, trees_more}
use Rattle.elimination.specs.Stack.{pairs_of, Whole, Fit, FitPairs}
use Rattle.elimination.specs.Areas.{pairs_in}

-- pairs read back
pub pairs_flatten : (ps : List Pair) → pairs_of (flatten ps) ≡ ps
unfolding pairs_of flatten
pairs_flatten [] = refl
pairs_flatten (p ∷ ps) = ap (λ (qs : List Pair). (p.0, p.1) ∷ qs) (pairs_flatten ps)

-- a list of trees that is that of pairs
pub pairs_are : {ts : Trees} (ps : List Pair) → ts ≡ flatten ps → pairs_of ts ≡ ps
pairs_are ps e = ap pairs_of e ∙ pairs_flatten ps

pub whole_are : {ts : Trees} (ps : List Pair) → ts ≡ flatten ps → Whole ts
whole_are ps e = ap flatten (pairs_are ps e) ∙ sym e

-- no cell, no pair
pub stack_empty : (a : Area) (k : ℕ) → k ≡ 0 → pairs_in a k ≡ []
unfolding pairs_of
stack_empty a k e = ap pairs_of (trees_none a.sheet.now a.work.now k e)

split : (t : Tree) (ts : Trees) (ps : List Pair) → more t ts ≡ flatten ps → (u : Tree) × (qs : List Pair) × (ps ≡ (t, u) ∷ qs) × (ts ≡ more u (flatten qs))
unfolding flatten
split t ts [] e = absurd (let z : ◌≡◌ {A = ℕ} 0 1 = cc in omega arith)
split t ts (p ∷ ps) e =
    let a : p.0 ≡ t = cc in
    let b : ts ≡ more p.1 (flatten ps) = cc in
    (p.1, ps, ap (λ (x : Tree). (x, p.1) ∷ ps) a, b)

-- cell l, of pairs and nothing else, and cell r after it
module _ (a : Area) (l r : ℕ) (p : 0 < l) (q : l < a.free) (e : r ≡ next_in a l) (whole : Whole (trees_in a l)) where
  halves : (u : Tree) × (qs : List Pair) × (pairs_in a l ≡ (tree_in a l, u) ∷ qs) × (trees_in a r ≡ more u (flatten qs))
  halves =
      split (tree_in a l) (trees_in a r) (pairs_in a l)
      (ap (λ (x : ℕ). more (tree_in a l) (trees_in a x)) e ∙ sym (trees_more a.sheet.now a.arena.links l p q) ∙ sym whole)

  pub right_some : 0 < r
  right_some = elim (dec_lt 0 r) [ yes h ↦ h | no h ↦ absurd (let f = sym (trees_none a.sheet.now a.work.now r (omega arith)) ∙ halves.3 in let z : ◌≡◌ {A = ℕ} 0 1 = cc in omega arith) ]

  module _ (rest : ℕ) (o : r < a.free) (f : rest ≡ next_in a r) where
    second : more (tree_in a r) (trees_in a rest) ≡ more halves.0 (flatten halves.1)
    second = ap (λ (x : ℕ). more (tree_in a r) (trees_in a x)) f ∙ sym (trees_more a.sheet.now a.arena.links r right_some o) ∙ halves.3

    below : trees_in a rest ≡ flatten halves.1
    below = let g = second in cc g

    pub rest_whole : Whole (trees_in a rest)
    rest_whole = whole_are halves.1 below

    pub top_pair : pairs_in a l ≡ (tree_in a l, tree_in a r) ∷ pairs_in a rest
    top_pair =
        let g = second in
        let u : halves.0 ≡ tree_in a r = cc g in
        halves.2 ∙ ap (λ (x : Tree). (tree_in a l, x) ∷ halves.1) u ∙ ap (λ (qs : List Pair). (tree_in a l, tree_in a r) ∷ qs) (sym (pairs_are halves.1 below))

-- pairs of which the first is known
module _ {ps : List Pair} (t u : Tree) (qs : List Pair) (e : ps ≡ (t, u) ∷ qs) where
  pub top_weight : weight ps ≡ load t u + weight qs
  unfolding weight
  top_weight = ap weight e

  pub top_fit : FitPairs ps → Fit t × Fit u × FitPairs qs
  top_fit h = subst FitPairs e h
