-- How many pairs are known not to be all of one tree twice, after children are pushed.
use Prim.Native.Nat.{ℕ, ◌<◌}
use mathlib.Core.Path.{◌≡◌, refl, sym, ap, subst, ◌∙◌}
use mathlib.Core.Bool.{Bool, true, false, cond, ◌&&◌, true≢false}
use lib.Dec.{eqb}
use borrow.Author.Tests.{eqb-true}
use mathlib.Core.List.{List}
use native.Mathlib.Omega.{arith}
use Rattle.rules.specs.Bytes.{same}
use Rattle.rules.specs.Tree.{Tree, variable, atom, apply, Trees, none, more, head, children, count, same_tree, same_trees}
use Rattle.rules.specs.Substitution.{Pair}
use Rattle.rules.specs.Solving.{push_children}
use Rattle.elimination.specs.Differing.{all_same, Differing, common_count}

-- Children

and_apart : (b : Bool) {x y : Bool} → (x ≡ false → y ≡ false) → (b && x) ≡ false → (b && y) ≡ false
and_apart true f e = f e
and_apart false f e = refl

-- different lists of one length
trees_apart : (ts us : Trees) (ps : List Pair) → count ts ≡ count us → same_trees ts us ≡ false → all_same (count ts) (push_children ts us ps) ≡ false
unfolding all_same push_children same_tree
trees_apart none none ps e d = absurd (true≢false d)
trees_apart none (more u us) ps e d = absurd (omega arith)
trees_apart (more t ts) none ps e d = absurd (omega arith)
trees_apart (more t ts) (more u us) ps e d =
    let z : count ts ≡ count us = omega arith in
    and_apart (same_tree t u) (λ f. trees_apart ts us ps z f) d

differing_children : (l r : Tree) (ps : List Pair) (k : ℕ) → same (head l) (head r) ≡ true → same_tree l r ≡ false
    → (0 < k → (count (children l) ≡ k) × (count (children r) ≡ k)) → Differing k (push_children (children l) (children r) ps)
unfolding head children same_tree
differing_children (variable x) r ps k h d c p = absurd (let e = (c p).0 in omega arith)
differing_children (atom x y) r ps k h d c p = absurd (let e = (c p).0 in omega arith)
differing_children (apply f ts) (variable x) ps k h d c p = absurd (let e = (c p).1 in omega arith)
differing_children (apply f ts) (atom x y) ps k h d c p = absurd (let e = (c p).1 in omega arith)
differing_children (apply f ts) (apply g us) ps k h d c p =
    let e = c p in
    let z : same_trees ts us ≡ false = sym (ap (λ (b : Bool). b && same_trees ts us) h) ∙ d in
    subst (λ (j : ℕ). all_same j (push_children ts us ps) ≡ false) e.0 (trees_apart ts us ps (e.0 ∙ sym e.1) z)

-- the children as the lists ts and us
pub differing_pushed : (l r : Tree) (ps : List Pair) (k : ℕ) {ts us : Trees} → ts ≡ children l → us ≡ children r → same (head l) (head r) ≡ true → same_tree l r ≡ false
    → (0 < k → (count ts ≡ k) × (count us ≡ k)) → Differing k (push_children (children l) (children r) ps)
differing_pushed l r ps k e f h d c =
    differing_children l r ps k h d (λ p. (sym (ap (λ (vs : Trees). count vs) e) ∙ (c p).0, sym (ap (λ (vs : Trees). count vs) f) ∙ (c p).1))

-- a number that is not 0 is that of both lists
pub common_both : (ts us : Trees) (k : ℕ) → k ≡ common_count ts us → 0 < k → (count ts ≡ k) × (count us ≡ k)
unfolding common_count
common_both ts us k e p = go (eqb (count ts) (count us)) refl e
  where
    go : (b : Bool) → eqb (count ts) (count us) ≡ b → k ≡ cond b (count ts) 0 → (count ts ≡ k) × (count us ≡ k)
    go true f g = (sym g, sym (eqb-true (count ts) (count us) f) ∙ sym g)
    go false f g = absurd (omega arith)
