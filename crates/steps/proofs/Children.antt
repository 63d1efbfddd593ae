-- The children of two cells, pairwise on the stack.
use Prim.Native.Nat.{ℕ, suc, ◌<◌}
use mathlib.Core.Path.{◌≡◌, refl, ap}
use mathlib.Core.List.{List}
use Rattle.rules.specs.Bytes.{Text}
use Rattle.rules.specs.Tree.{Trees, none, more}
use Rattle.rules.specs.Substitution.{Pair, flatten}
use Rattle.rules.specs.Solving.{push_children}
use Rattle.laws.specs.Memory.{pushed}
use Rattle.tree.specs.Cells.{next_of, tree_at, trees_at}
use Rattle.tree.specs.Arena.{Links}
use Rattle.tree.proofs.Decoding.{trees_none, trees_more}
use Rattle.elimination.specs.Stack.{pushes}

pub flatten_pushes : (ts us : Trees) (ps : List Pair) → flatten (push_children ts us ps) ≡ pushes ts us (flatten ps)
unfolding push_children pushes flatten
flatten_pushes none us ps = refl
flatten_pushes (more t ts) none ps = refl
flatten_pushes (more t ts) (more u us) ps = ap (λ (vs : Trees). more t (more u vs)) (flatten_pushes ts us ps)

-- two lists pairwise, cell by cell
module _ (s : Text) (w : List ℕ) where
  pub pushes_left : (l r : ℕ) (ps : Trees) → l ≡ 0 → (pushes (trees_at s w l) (trees_at s w r) ps ≡ ps) × (pushed (trees_at s w l) (trees_at s w r) ≡ 0)
  unfolding pushes pushed
  pushes_left l r ps e = (rw (trees_none s w l e), rw (trees_none s w l e))

  pub pushes_right : {n : ℕ} (l r : ℕ) (ps : Trees) → Links w n → 0 < l → l < n → r ≡ 0 → (pushes (trees_at s w l) (trees_at s w r) ps ≡ ps) × (pushed (trees_at s w l) (trees_at s w r) ≡ 0)
  unfolding pushes pushed
  pushes_right l r ps a p q e = (rw (trees_more s a l p q, trees_none s w r e), rw (trees_more s a l p q, trees_none s w r e))

  pub pushes_more : {n : ℕ} (l r x y : ℕ) (ps : Trees) → Links w n → 0 < l → l < n → 0 < r → r < n → x ≡ next_of w l → y ≡ next_of w r
      → (pushes (trees_at s w l) (trees_at s w r) ps ≡ more (tree_at s w l) (more (tree_at s w r) (pushes (trees_at s w x) (trees_at s w y) ps)))
      × (pushed (trees_at s w l) (trees_at s w r) ≡ suc (pushed (trees_at s w x) (trees_at s w y)))
  unfolding pushes pushed
  pushes_more l r x y ps a p q p₁ q₁ e f = (rw (trees_more s a l p q, trees_more s a r p₁ q₁, e, f), rw (trees_more s a l p q, trees_more s a r p₁ q₁, e, f))
