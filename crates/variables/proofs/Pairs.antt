-- The loop over an area that pairs, at each variable, the trees that two lists of bindings give it.
use Prim.Native.Nat.{ℕ, ◌+◌, ◌*◌, ◌<◌, ◌≤◌}
use mathlib.Core.Path.{◌≡◌, refl, sym, ap, ap₂, subst, ◌∙◌}
use mathlib.Core.List.{List, [], ◌∷◌}
use native.Mathlib.Omega.{arith}
use Rattle.rules.specs.Bytes.{Text}
use Rattle.rules.specs.Tree.{Tree, variable, Trees, more, count}
use Rattle.rules.specs.Substitution.{lookup}
use Rattle.tree.specs.Cells.{kind_of}
use Rattle.tree.specs.declared.area.Area.{Area}
use Rattle.tree.specs.Areas.{next_in, name_in, tree_in, trees_in}
use Rattle.tree.proofs.Decoding.{kind, trees_none, trees_more}
use Rattle.tree.proofs.Keeping.{adds_then, adds_grows, grows_next, grows_name, grows_tree, grows_trees}
use Rattle.substitution.specs.Bindings.{key_of, bindings_of}
use Rattle.substitution.specs.Areas.{bindings_in, Lists}
use Rattle.substitution.proofs.Keys.{key_name}
use Rattle.substitution.proofs.Listing.{lists_same}
use Rattle.variables.specs.Listing.{backwards}
use Rattle.variables.specs.Pairing.{names_of, OfVariables, paired, flatten_before}
use Rattle.variables.specs.Areas.{names_in, SolutionIn, ValuesPairedIn}
use Rattle.variables.specs.declared.pairing.Solution.{Solution}
use Rattle.variables.proofs.Pairings.{first_variable}

-- the variables of the list before cell k are paired in the list from cell `list` on
pub record PairingIn (a b : Area) (values : ℕ) (s : Solution) (rest k list : ℕ) : Type 0 where
  pub done : List Text
  pub lists : Lists a b list (flatten_before (paired (bindings_in a values) (bindings_in a s.bindings) done) (trees_in a rest))
  pub are : backwards (names_of (trees_in a k)) done ≡ names_in a s.names
  pub variables : OfVariables (trees_in a k)
  pub left : k < a.free
  pub used : b.free + 2 * count (trees_in a k) ≡ a.free + 2 * count (trees_in a s.names)

pub pairs_starts : (a : Area) (values : ℕ) (s : Solution) (rest : ℕ) → SolutionIn a s → rest < a.free → PairingIn a a values s rest s.names rest
unfolding paired flatten_before
pairs_starts a values s rest p q = record { done = []; lists = lists_same a rest q; are = refl; variables = p.names.variables; left = p.names.inside; used = refl }

module _ {a b : Area} {values rest k list : ℕ} {s : Solution} (h : PairingIn a b values s rest k list) where
  pub pairs_ends : k ≡ 0 → ValuesPairedIn a b values s rest list
  unfolding names_of backwards
  pairs_ends e =
      let z = trees_none a.sheet.now a.work.now k e in
      let f : h.done ≡ names_in a s.names = sym (ap (λ (ts : Trees). backwards (names_of ts) h.done) z) ∙ h.are in
      record {
        lists = subst (λ (xs : List Text). Lists a b list (flatten_before (paired (bindings_in a values) (bindings_in a s.bindings) xs) (trees_in a rest))) f h.lists;
        used = omega (arith, h.used, ap count z);
      }

  module _ (p : 0 < k) where
    parts : trees_in a k ≡ more (tree_in a k) (trees_in a (next_in a k))
    parts = trees_more a.sheet.now a.arena.links k p h.left

    told : (tree_in a k ≡ variable (key_of (tree_in a k))) × OfVariables (trees_in a (next_in a k))
    told = first_variable (tree_in a k) (trees_in a (next_in a k)) (subst OfVariables parts h.variables)

    now_name : name_in b k ≡ key_of (tree_in a k)
    now_name = grows_name (adds_grows h.lists.adds) k h.left ∙ sym (key_name a.sheet.now a.work.now k (kind (kind_of a.work.now k)))

    pub pairs_variable : tree_in b k ≡ variable (name_in b k)
    pairs_variable = grows_tree (adds_grows h.lists.adds) k h.left p ∙ told.0 ∙ ap variable (sym now_name)

    pub pairs_room : b.free + 2 ≤ a.free + 2 * count (trees_in a s.names)
    pairs_room = omega (arith, h.used, ap count parts)

    looked_up : (j : ℕ) → j < a.free → lookup (bindings_in b j) (name_in b k) ≡ lookup (bindings_in a j) (key_of (tree_in a k))
    looked_up j q = ap₂ (λ (ts : Trees) (x : Text). lookup (bindings_of ts) x) (grows_trees (adds_grows h.lists.adds) j q) now_name

    pub pairs_turn : {d : Area} {j i : ℕ} (l r : ℕ) → values < a.free → s.bindings < a.free → tree_in b l ≡ lookup (bindings_in b values) (name_in b k) → tree_in b r ≡ lookup (bindings_in b s.bindings) (name_in b k)
        → Lists b d i (more (tree_in b l) (more (tree_in b r) (trees_in b list))) → d.free ≡ b.free + 2 → j ≡ next_in d k → PairingIn a d values s rest j i
    unfolding paired flatten_before names_of backwards
    pairs_turn {d} {j} {i} l r vs bs f g m z e =
        let adds = adds_then h.lists.adds m.adds in
        let n : j ≡ next_in a k = e ∙ grows_next (adds_grows adds) k h.left in
        let x = key_of (tree_in a k) in
        record {
          done = x ∷ h.done;
          lists = record {
            adds = adds;
            inside = m.inside;
            trees = m.trees ∙ ap₂ (λ (t u : Tree). more t (more u (trees_in b list))) (f ∙ looked_up values vs) (g ∙ looked_up s.bindings bs)
                ∙ ap (λ (ts : Trees). more (lookup (bindings_in a values) x) (more (lookup (bindings_in a s.bindings) x) ts)) h.lists.trees;
          };
          are = ap (λ (i : ℕ). backwards (names_of (trees_in a i)) (x ∷ h.done)) n ∙ sym (ap (λ (ts : Trees). backwards (names_of ts) h.done) parts) ∙ h.are;
          variables = subst (λ (i : ℕ). OfVariables (trees_in a i)) (sym n) told.1;
          left = omega (arith, h.left, a.arena.links.next k p h.left);
          used = omega (arith, h.used, ap count parts, ap (λ (i : ℕ). count (trees_in a i)) n);
        }
