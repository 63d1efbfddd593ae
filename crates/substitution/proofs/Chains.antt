-- Lists of bindings and nothing else, cell by cell.
use Prim.Native.Nat.{ℕ, ◌<◌}
use mathlib.Core.Path.{◌≡◌, refl, sym, ap, ◌∙◌}
use mathlib.Core.List.{List, [], ◌∷◌}
use native.Mathlib.Omega.{arith}
use native.Mathlib.Decide.{dec_lt}
use Rattle.rules.specs.Bytes.{Text}
use Rattle.rules.specs.Tree.{Tree, variable, Trees, none, more}
use Rattle.rules.specs.Substitution.{Binding}
use Rattle.tree.specs.Cells.{kind_of, name_at, next_of, tree_at, trees_at}
use Rattle.tree.specs.Arena.{Links}
use Rattle.tree.proofs.Decoding.{kind, trees_none, trees_more}
use Rattle.substitution.specs.Bindings.{key_of, bindings_of, bindings_at, flatten_bindings, Chain}
use Rattle.substitution.proofs.Keys.{key_name, bindings_more}

-- bindings read back
pub bindings_flatten : (bs : List Binding) → bindings_of (flatten_bindings bs) ≡ bs
unfolding bindings_of flatten_bindings
bindings_flatten [] = refl
bindings_flatten (b ∷ bs) = ap (λ (cs : List Binding). (b.0, b.1) ∷ cs) (bindings_flatten bs)

pub chain_flatten : (bs : List Binding) → Chain (flatten_bindings bs)
chain_flatten bs = ap flatten_bindings (bindings_flatten bs)

pub chain_none : Chain none
unfolding bindings_of flatten_bindings
chain_none = refl

pub chain_more : (x : Text) (t : Tree) (ts : Trees) → Chain ts → Chain (more (variable x) (more t ts))
unfolding bindings_of flatten_bindings
chain_more x t ts c = ap (λ (us : Trees). more (variable x) (more t us)) c

pub head_more : {t u : Tree} {ts us : Trees} → more t ts ≡ more u us → t ≡ u
head_more e = cc

tail_more : {t u : Tree} {ts us : Trees} → more t ts ≡ more u us → ts ≡ us
tail_more e = cc

pub none_more : {t : Tree} {ts : Trees} → none ≡ more t ts → ⊥
none_more e = let z : ◌≡◌ {A = ℕ} 0 1 = cc in omega arith

chain_odd : (t : Tree) → Chain (more t none) → ⊥
unfolding bindings_of flatten_bindings
chain_odd t c = none_more c

chain_key : (t u : Tree) (ts : Trees) → Chain (more t (more u ts)) → t ≡ variable (key_of t)
unfolding bindings_of flatten_bindings
chain_key t u ts c = sym (head_more c)

chain_tail : (t u : Tree) (ts : Trees) → Chain (more t (more u ts)) → Chain ts
unfolding bindings_of flatten_bindings
chain_tail t u ts c = tail_more (tail_more c)

-- the binding with the key's cell k and the value's cell v, before those from cell j on
pub record Entry (s : Text) (w : List ℕ) (k v j : ℕ) : Type 0 where
  pub read : bindings_at s w k ≡ (name_at s w k, tree_at s w v) ∷ bindings_at s w j
  pub key : tree_at s w k ≡ variable (name_at s w k)
  pub chain : Chain (trees_at s w j)

module _ {w : List ℕ} {n : ℕ} (s : Text) (l : Links w n) (k v : ℕ) (p : 0 < k) (q : k < n) (c : Chain (trees_at s w k)) (e : v ≡ next_of w k) where
  pub value_some : 0 < v
  value_some = elim (dec_lt 0 v) [
    | yes h ↦ h
    | no h ↦ absurd (chain_odd (tree_at s w k) (rw (trees_more s l k p q ∙ ap (more (tree_at s w k)) (trees_none s w (next_of w k) (omega arith))) at c))
  ]

  pub entry : (j : ℕ) → j ≡ next_of w v → Entry s w k v j
  entry j f =
      let h = l.next k p q in
      let r : v < n = omega arith in
      let d : trees_at s w k ≡ more (tree_at s w k) (more (tree_at s w v) (trees_at s w j)) =
      trees_more s l k p q ∙ ap (more (tree_at s w k)) (ap (trees_at s w) (sym e) ∙ trees_more s l v value_some r ∙ ap (λ (i : ℕ). more (tree_at s w v) (trees_at s w i)) (sym f)) in
      let g = rw d at c in
      record {
        read = bindings_more s l k v p q e value_some r ∙ ap (λ (i : ℕ). (name_at s w k, tree_at s w v) ∷ bindings_at s w i) (sym f);
        key = chain_key (tree_at s w k) (tree_at s w v) (trees_at s w j) g ∙ ap variable (key_name s w k (kind (kind_of w k)));
        chain = chain_tail (tree_at s w k) (tree_at s w v) (trees_at s w j) g;
      }
