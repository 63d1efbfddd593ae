-- The loop that composes the bindings of an area.
use Prim.Native.Nat.{ℕ, ◌+◌, ◌*◌, ◌<◌, ◌≤◌}
use mathlib.Core.Path.{◌≡◌, refl, sym, ap, ap₂, ◌∙◌}
use mathlib.Core.List.{List, [], ◌∷◌, reverse}
use lib.ListN.{length}
use native.Mathlib.Omega.{arith}
use Rattle.std.specs.Prelude.{Some, None}
use Rattle.rules.specs.Tree.{Tree, variable, more, size}
use Rattle.rules.specs.Substitution.{Binding, instantiate}
use Rattle.rules.specs.Solving.{compose}
use Rattle.tree.specs.declared.area.Area.{Area}
use Rattle.tree.specs.Areas.{next_in, name_in, tree_in, trees_in, Adds, Pushes}
use Rattle.tree.proofs.Decoding.{trees_none}
use Rattle.tree.proofs.Keeping.{adds_same, adds_then, adds_grows, adds_push, pushed_inside, pushed_trees, grows_next, grows_tree}
use Rattle.substitution.specs.Bindings.{bindings_of, Chain}
use Rattle.substitution.specs.Areas.{bindings_in, instance_in, WithinArea, Places, ComposedIn}
use Rattle.substitution.specs.declared.instances.Built.{Built}
use Rattle.substitution.proofs.Keys.{bindings_none}
use Rattle.substitution.proofs.Chains.{chain_none, chain_more, Entry, value_some, entry}
use Rattle.substitution.proofs.Composing.{composing, composing_is, composing_fits, composing_over}
use Rattle.substitution.proofs.Listing.{within_then}

-- at the loop's head: the bindings from cell k on are left, those from cell c on are composed
pub record Holds (a b : Area) (es : List Binding) (k c : ℕ) : Type 0 where
  pub adds : Adds a b
  pub left : k < a.free
  pub inside : c < b.free
  pub left_chain : Chain (trees_in a k)
  pub chain : Chain (trees_in b c)
  pub result : composing (bindings_in a k) (Some (bindings_in b c)) ≡ compose (reverse es)
  pub used : b.free + 4097 * length (bindings_in a k) ≤ a.free + 4097 * length es

pub holds_start : (a : Area) (k : ℕ) → k < a.free → Chain (trees_in a k) → Holds a a (bindings_in a k) k 0
unfolding compose
holds_start a k q c = record {
  adds = adds_same a;
  left = q;
  inside = a.arena.links.some;
  left_chain = c;
  chain = rw (trees_none a.sheet.now a.work.now 0 refl) chain_none;
  result = ap (λ (cs : List Binding). composing (bindings_in a k) (Some cs)) (bindings_none a.sheet.now a.work.now 0 refl) ∙ composing_is (bindings_in a k) [];
  used = omega arith;
}

module _ {a b : Area} {es : List Binding} {k c : ℕ} (h : Holds a b es k c) where
  pub holds_end : k ≡ 0 → ComposedIn a b es c
  holds_end e = record {
    composed = sym h.result ∙ ap (λ (bs : List Binding). composing bs (Some (bindings_in b c))) (bindings_none a.sheet.now a.work.now k e);
    chain = h.chain;
    adds = h.adds;
    inside = h.inside;
    used = omega (arith, h.used);
  }

  -- the value's cell x of the binding at cell k, and the rest of the bindings
  module _ (x : ℕ) (p : 0 < k) (e : x ≡ next_in b k) where
    value_is : x ≡ next_in a k
    value_is = e ∙ grows_next (adds_grows h.adds) k h.left

    pub holds_value : 0 < x
    holds_value = value_some a.sheet.now a.arena.links k x p h.left h.left_chain value_is

    pub holds_inside : x < a.free
    holds_inside = let f = value_is in omega (arith, a.arena.links.next k p h.left, h.left)

    module _ (j : ℕ) (f : j ≡ next_in b x) where
      at_left : Entry a.sheet.now a.work.now k x j
      at_left = entry a.sheet.now a.arena.links k x p h.left h.left_chain value_is j (f ∙ grows_next (adds_grows h.adds) x holds_inside)

      -- the value may be read in the area as it was
      instance_is : instance_in b c x ≡ instantiate (bindings_in b c) (tree_in a x)
      instance_is = ap (instantiate (bindings_in b c)) (grows_tree (adds_grows h.adds) x holds_inside holds_value)

      length_is : length (bindings_in a k) ≡ 1 + length (bindings_in a j)
      length_is = ap length at_left.read ∙ omega arith

      pub holds_room : b.free + 4097 ≤ a.free + 4097 * length es
      holds_room = omega (arith, h.used, length_is)

      pub holds_over : {d : Area} → (4096 < size (instance_in b c x)) × WithinArea b d 4096 → (compose (reverse es) ≡ None) × WithinArea a d (4097 * length es)
      holds_over g = (
        sym h.result ∙ ap (λ (bs : List Binding). composing bs (Some (bindings_in b c))) at_left.read
            ∙ composing_over (name_in a k) (tree_in a x) (bindings_in a j) (bindings_in b c) (omega (arith, g.0, ap size instance_is)),
        within_then h.adds g.1 (omega (arith, holds_room)),
      )

      pub holds_turn : {d z : Area} {r : Built} {o : ℕ} → Places b d 4096 c (instance_in b c x) r → Pushes d z o r.index (tree_in d k) → Holds a z es j o
      unfolding bindings_of
      holds_turn {d} {z} {r} {o} g y =
          let t = instantiate (bindings_in b c) (tree_in a x) in
          let adds = adds_then h.adds g.puts.adds in
          let key : tree_in d k ≡ variable (name_in a k) = grows_tree (adds_grows adds) k h.left p ∙ at_left.key in
          let trees : trees_in z o ≡ more (variable (name_in a k)) (more t (trees_in b c)) = pushed_trees y ∙ ap₂ more key (g.puts.trees ∙ ap (λ (q : Tree). more q (trees_in b c)) instance_is) in
          let bindings : bindings_in z o ≡ (name_in a k, t) ∷ bindings_in b c = ap bindings_of trees in
          record {
            adds = adds_then adds (adds_push y);
            left = omega (arith, f ∙ grows_next (adds_grows h.adds) x holds_inside, a.arena.links.next x holds_value holds_inside, holds_inside);
            inside = pushed_inside y;
            left_chain = at_left.chain;
            chain = rw trees (chain_more (name_in a k) t (trees_in b c) h.chain);
            result = ap (λ (cs : List Binding). composing (bindings_in a j) (Some cs)) bindings
                ∙ sym (composing_fits (name_in a k) (tree_in a x) (bindings_in a j) (bindings_in b c) (omega (arith, g.spent, ap size instance_is)))
                ∙ ap (λ (bs : List Binding). composing bs (Some (bindings_in b c))) (sym at_left.read) ∙ h.result;
            used = omega (arith, h.used, length_is, g.used, y.end);
          }
