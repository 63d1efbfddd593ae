-- What is claimed of a member: instances under bindings that give every variable the same value.
use Prim.Native.Nat.{ℕ, zero, suc, ◌<◌, ◌≤◌}
use native.Mathlib.Omega.{arith}
use mathlib.Core.Path.{◌≡◌, refl, sym, ap, ap₂, ◌∙◌}
use mathlib.Core.Bool.{Bool, true}
use mathlib.Core.List.{List, []}
use Rattle.std.specs.Prelude.{Option, Some, None}
use lib.Dec.{leb}
use Rattle.rules.specs.Bytes.{Text}
use Rattle.rules.specs.Maybe.{◌>>=◌, guard}
use Rattle.rules.specs.Tree.{Tree, apply, Trees, more, size}
use Rattle.rules.specs.Sums.{equivalent}
use Rattle.rules.specs.Reduction.{normalize}
use Rattle.rules.specs.Substitution.{Substitution, substitute, substitutes, Binding, lookup, instantiate}
use Rattle.rules.specs.Sheet.{Member}
use Rattle.rules.specs.Variants.{Variant, read_member, instance_of, sound}
use Rattle.laws.proofs.Basics.Tests.{true_leb, false_leb}
use Rattle.tree.specs.Cells.{kind_of, name_at, first_of, next_of, made, forest, trees_at, tree_at}
use Rattle.tree.specs.Arena.{Arena}
use Rattle.tree.proofs.Decoding.{Kind, application, a_variable, an_atom, kind, made_apply, made_variable, made_atom}
use Rattle.variants.specs.Members.{nameable, Alike, MemberThere}
use Rattle.variants.specs.Soundness.{reduces_to, OneMember}
use Rattle.variants.proofs.NameLaws.{cell_nameable}

-- ---- trees in cells, under substitutions that are the same on names of variables

module _ {s : Text} {w : List ℕ} {n : ℕ} (a : Arena s w n) (σ τ : Substitution) (h : (x : Text) → nameable x ≡ true → σ x ≡ τ x) where
  node_alike : (k : ℕ) → 0 < k → k < n → (ts : Trees) → substitutes σ ts ≡ substitutes τ ts
      → substitute σ (made (kind_of w k) (name_at s w k) ts) ≡ substitute τ (made (kind_of w k) (name_at s w k) ts)
  unfolding substitute
  node_alike k p q ts e = go (kind (kind_of w k))
    where
      go : Kind (kind_of w k) → substitute σ (made (kind_of w k) (name_at s w k) ts) ≡ substitute τ (made (kind_of w k) (name_at s w k) ts)
      go (application z) = let m = made_apply (kind_of w k) (name_at s w k) ts z in ap (substitute σ) m ∙ ap (apply (name_at s w k)) e ∙ sym (ap (substitute τ) m)
      go (a_variable y z) =
          let m = made_variable (kind_of w k) (name_at s w k) ts y z in
          ap (substitute σ) m ∙ h (name_at s w k) (cell_nameable a k p q z) ∙ sym (ap (substitute τ) m)
      go (an_atom z) = let m = made_atom (kind_of w k) (name_at s w k) ts z in ap (substitute σ) m ∙ sym (ap (substitute τ) m)

  forest_alike : (f k : ℕ) → k < n → substitutes σ (forest f s w k) ≡ substitutes τ (forest f s w k)
  unfolding forest substitute
  forest_alike zero k q = refl
  forest_alike (suc f) zero q = refl
  forest_alike (suc f) (suc j) q =
      let lf = a.links.first (suc j) (omega arith) q in
      let ln = a.links.next (suc j) (omega arith) q in
      ap₂ more (node_alike (suc j) (omega arith) q (forest f s w (first_of w (suc j))) (forest_alike f (first_of w (suc j)) (omega arith))) (forest_alike f (next_of w (suc j)) (omega arith))

  tree_alike : (k : ℕ) → 0 < k → k < n → substitute σ (tree_at s w k) ≡ substitute τ (tree_at s w k)
  unfolding tree_at trees_at
  tree_alike k p q =
      let lf = a.links.first k p q in
      node_alike k p q (trees_at s w (first_of w k)) (forest_alike (first_of w k) (first_of w k) (omega arith))

-- ---- the definition by cases

-- the claim of an instance
abbrev claim_of : Tree → Tree → Option Bool
claim_of i t = (guard (leb (size i) 4096) >>= λ _. Some i) >>= λ i. Some (equivalent (normalize i) t)

reduces_is : (bs : List Binding) (term t : Tree) → reduces_to bs term t ≡ claim_of (instantiate bs term) t
unfolding reduces_to instance_of
reduces_is bs term t = refl

pub instance_over : (bs : List Binding) (term t : Tree) → 4096 < size (instantiate bs term) → None ≡ reduces_to bs term t
instance_over bs term t h =
    sym (reduces_is bs term t ∙ ap (λ (b : Bool). (guard b >>= λ _. Some (instantiate bs term)) >>= λ i. Some (equivalent (normalize i) t)) (false_leb (size (instantiate bs term)) 4096 h))

pub instance_there : (bs : List Binding) (term t : Tree) → size (instantiate bs term) ≤ 4096 → reduces_to bs term t ≡ Some (equivalent (normalize (instantiate bs term)) t)
instance_there bs term t h =
    reduces_is bs term t ∙ ap (λ (b : Bool). (guard b >>= λ _. Some (instantiate bs term)) >>= λ i. Some (equivalent (normalize i) t)) (true_leb (size (instantiate bs term)) 4096 h)

-- ---- a member

pub one_there : {s : Text} {at : ℕ} → OneMember s at → MemberThere s at
one_there o = record { member = o.member; later = []; are = o.is }

pub sound_unread : (term : Tree) (m : Member) → read_member m ≡ None → None ≡ sound term m
unfolding sound
sound_unread term m e = sym (ap (λ (o : Option Variant). o >>= λ v. instance_of v.1 term >>= λ i. Some (equivalent (normalize i) v.0)) e)

pub sound_read : {s : Text} {w : List ℕ} {n : ℕ} → Arena s w n → (k : ℕ) → 0 < k → k < n → (m : Member) (t : Tree) (bs cs : List Binding) → read_member m ≡ Some (t, cs) → Alike bs cs
    → reduces_to bs (tree_at s w k) t ≡ sound (tree_at s w k) m
unfolding sound reduces_to instance_of
sound_read {s} {w} a k p q m t bs cs e h =
    reduces_is bs (tree_at s w k) t ∙ ap (λ (i : Tree). claim_of i t) (tree_alike a (lookup bs) (lookup cs) h k p q)
    ∙ sym (ap (λ (o : Option Variant). o >>= λ v. instance_of v.1 (tree_at s w k) >>= λ i. Some (equivalent (normalize i) v.0)) e)
