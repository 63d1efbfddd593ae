-- The decoder at a cell, and the frame law.
use Prim.Native.Nat.{ℕ, zero, suc, ◌+◌, ◌*◌, ◌<◌, ◌≤◌}
use mathlib.Core.Path.{◌≡◌, refl, ap, ap₂}
use mathlib.Core.List.{List}
use lib.ListN.{get_or}
use native.Mathlib.Omega.{arith}
use native.Mathlib.Decide.{dec_lt}
use borrow.Author.Tests.{eq-eqb, ne_eqb, lt-ltb, le-ltb}
use Rattle.rules.specs.Bytes.{Text}
use Rattle.rules.specs.Tree.{Tree, variable, atom, apply, Trees, none, more, size, sizes}
use Rattle.tree.specs.Cells.{start_of, length_of, kind_of, first_of, next_of, nodes_of, named, name_at, made, forest, trees_at, tree_at}
use Rattle.tree.specs.Arena.{Links}

-- a cell's kind is one of three
pub data Kind (n : ℕ) : Type 0 where
  application : n ≡ 0 → Kind n
  a_variable : 0 < n → n < 7 → Kind n
  an_atom : 7 ≤ n → Kind n

pub kind : (n : ℕ) → Kind n
kind n = elim (dec_lt 0 n) [ no p ↦ application (omega arith) | yes p ↦ elim (dec_lt n 7) [ yes q ↦ a_variable p q | no q ↦ an_atom (omega arith) ] ]

module _ (k : ℕ) (n : Text) (ts : Trees) where
  pub made_apply : k ≡ 0 → made k n ts ≡ apply n ts
  unfolding made
  made_apply e = rw (eq-eqb k 0 e)

  pub made_variable : 0 < k → k < 7 → made k n ts ≡ variable n
  unfolding made
  made_variable p q = rw (ne_eqb k 0 (omega arith), lt-ltb k 7 q)

  pub made_atom : 7 ≤ k → made k n ts ≡ atom k n
  unfolding made
  made_atom p = rw (ne_eqb k 0 (omega arith), le-ltb k 7 p)

-- two areas have the same words in the cells below n
abbrev pub Agree : List ℕ → List ℕ → ℕ → Type 0
Agree w v n = (p : ℕ) → p < 4 * n → get_or w p 0 ≡ get_or v p 0

module _ (w v : List ℕ) {n : ℕ} (e : Agree w v n) (k : ℕ) (q : k < n) where
  pub same_start : start_of w k ≡ start_of v k
  unfolding start_of
  same_start = rw (e (4 * k) (omega arith))

  pub same_length : length_of w k ≡ length_of v k
  unfolding length_of
  same_length = rw (e (4 * k) (omega arith))

  pub same_kind : kind_of w k ≡ kind_of v k
  unfolding kind_of
  same_kind = rw (e (4 * k + 1) (omega arith))

  pub same_count : nodes_of w k ≡ nodes_of v k
  unfolding nodes_of
  same_count = rw (e (4 * k + 1) (omega arith))

  pub same_first : first_of w k ≡ first_of v k
  same_first = e (4 * k + 2) (omega arith)

  pub same_next : next_of w k ≡ next_of v k
  same_next = e (4 * k + 3) (omega arith)

  pub same_name : (s : Text) → name_at s w k ≡ name_at s v k
  unfolding name_at
  same_name s = ap₂ (named s) same_start same_length

-- enough fuel is enough
fuel : (s : Text) (w : List ℕ) (n : ℕ) → Links w n → (f g k : ℕ) → k ≤ f → k ≤ g → k < n → forest f s w k ≡ forest g s w k
unfolding forest
fuel s w n h zero zero k p q l = refl
fuel s w n h zero (suc g) zero p q l = refl
fuel s w n h zero (suc g) (suc k) p q l = absurd (omega arith)
fuel s w n h (suc f) zero zero p q l = refl
fuel s w n h (suc f) zero (suc k) p q l = absurd (omega arith)
fuel s w n h (suc f) (suc g) zero p q l = refl
fuel s w n h (suc f) (suc g) (suc k) p q l =
    let lf = h.first (suc k) (omega arith) l in
    let ln = h.next (suc k) (omega arith) l in
    ap₂ (λ (a b : Trees). more (made (kind_of w (suc k)) (name_at s w (suc k)) a) b)
    (fuel s w n h f g (first_of w (suc k)) (omega arith) (omega arith) (omega arith))
    (fuel s w n h f g (next_of w (suc k)) (omega arith) (omega arith) (omega arith))

-- no cell
pub trees_none : (s : Text) (w : List ℕ) (k : ℕ) → k ≡ 0 → trees_at s w k ≡ none
unfolding trees_at forest
trees_none s w k e = rw e

-- a cell with what follows it
pub trees_more : {w : List ℕ} {n : ℕ} (s : Text) → Links w n → (k : ℕ) → 0 < k → k < n → trees_at s w k ≡ more (tree_at s w k) (trees_at s w (next_of w k))
unfolding trees_at tree_at forest
trees_more {w} {n} s a zero p q = absurd (omega arith)
trees_more {w} {n} s a (suc k) p q =
    let lf = a.first (suc k) p q in
    let ln = a.next (suc k) p q in
    ap₂ (λ (a b : Trees). more (made (kind_of w (suc k)) (name_at s w (suc k)) a) b)
    (fuel s w n a k (first_of w (suc k)) (first_of w (suc k)) (omega arith) (omega arith) (omega arith))
    (fuel s w n a k (next_of w (suc k)) (next_of w (suc k)) (omega arith) (omega arith) (omega arith))

-- the frame law: where two areas agree on the words of the cells below n, so do the trees there
frame_forest : (s : Text) (w v : List ℕ) (n : ℕ) → Links w n → Agree w v n → (f k : ℕ) → k < n → forest f s w k ≡ forest f s v k
unfolding forest
frame_forest s w v n h e zero k l = refl
frame_forest s w v n h e (suc f) zero l = refl
frame_forest s w v n h e (suc f) (suc k) l =
    let lf = h.first (suc k) (omega arith) l in
    let ln = h.next (suc k) (omega arith) l in
    let first = frame_forest s w v n h e f (first_of w (suc k)) (omega arith) in
    let next = frame_forest s w v n h e f (next_of w (suc k)) (omega arith) in
    rw (first, next, same_kind w v e (suc k) l, same_name w v e (suc k) l s, same_first w v e (suc k) l, same_next w v e (suc k) l)

pub frame_trees : {w : List ℕ} {n : ℕ} (s : Text) (v : List ℕ) → Links w n → Agree w v n → (k : ℕ) → k < n → trees_at s w k ≡ trees_at s v k
unfolding trees_at
frame_trees {w} {n} s v a e k l = frame_forest s w v n a e k k l

pub frame_tree : {w : List ℕ} {n : ℕ} (s : Text) (v : List ℕ) → Links w n → Agree w v n → (k : ℕ) → 0 < k → k < n → tree_at s w k ≡ tree_at s v k
unfolding tree_at
frame_tree {w} {n} s v a e k p l =
    let lf = a.first k p l in
    let first = frame_trees s v a e (first_of w k) (omega arith) in
    rw (first, same_kind w v e k l, same_name w v e k l s, same_first w v e k l)

-- the tree of a cell, by its kind
module _ (s : Text) (w : List ℕ) (k : ℕ) where
  pub tree_variable : 0 < kind_of w k → kind_of w k < 7 → tree_at s w k ≡ variable (name_at s w k)
  unfolding tree_at
  tree_variable p q = made_variable (kind_of w k) (name_at s w k) (trees_at s w (first_of w k)) p q

  pub tree_atom : 7 ≤ kind_of w k → tree_at s w k ≡ atom (kind_of w k) (name_at s w k)
  unfolding tree_at
  tree_atom p = made_atom (kind_of w k) (name_at s w k) (trees_at s w (first_of w k)) p

  pub tree_apply : kind_of w k ≡ 0 → tree_at s w k ≡ apply (name_at s w k) (trees_at s w (first_of w k))
  unfolding tree_at
  tree_apply e = made_apply (kind_of w k) (name_at s w k) (trees_at s w (first_of w k)) e

-- a tree has a node
pub size_pos : (t : Tree) → 0 < size t
unfolding size
size_pos (variable n) = omega arith
size_pos (atom l d) = omega arith
size_pos (apply n ts) = omega arith

-- the counts of a cell's parts
pub size_apply : (s : Text) (w : List ℕ) (k : ℕ) → kind_of w k ≡ 0 → size (tree_at s w k) ≡ 1 + sizes (trees_at s w (first_of w k))
unfolding size
size_apply s w k e = ap size (tree_apply s w k e)

pub sizes_none : (s : Text) (w : List ℕ) (k : ℕ) → k ≡ 0 → sizes (trees_at s w k) ≡ 0
unfolding size
sizes_none s w k e = ap sizes (trees_none s w k e)

pub sizes_more : {w : List ℕ} {n : ℕ} (s : Text) → Links w n → (k : ℕ) → 0 < k → k < n → sizes (trees_at s w k) ≡ size (tree_at s w k) + sizes (trees_at s w (next_of w k))
unfolding size
sizes_more s l k p q = ap sizes (trees_more s l k p q)

pub sizes_is : (s : Text) (w : List ℕ) {i j : ℕ} → i ≡ j → sizes (trees_at s w i) ≡ sizes (trees_at s w j)
sizes_is s w e = rw e

-- a count is of 16 bits
pub count_small : (w : List ℕ) (k : ℕ) → nodes_of w k < 65536
unfolding nodes_of
count_small w k = omega arith
