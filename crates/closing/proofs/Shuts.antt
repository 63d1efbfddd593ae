-- What a closed list of an area is: an application, or nothing.
use Prim.Native.Nat.{ℕ, ◌+◌, ◌*◌, ◌<◌, ◌≤◌}
use native.Mathlib.Omega.{arith}
use mathlib.Core.Path.{◌≡◌, refl, sym, ap, ap₂, subst, ◌∙◌}
use mathlib.Core.List.{[], ◌∷◌}
use mathlib.Core.Bool.{Bool, true, false}
use Rattle.std.specs.Prelude.{Option, Some, None}
use Rattle.laws.proofs.Basics.Somes.{some_injective}
use Rattle.laws.proofs.Basics.Tests.{same_eq}
use Rattle.rules.specs.Bytes.{Text, same}
use Rattle.rules.specs.Names.{letter_name}
use Rattle.leaves.specs.Leaves.{name_letter}
use Rattle.leaves.proofs.LeafLaws.{letter_found, no_letter_found}
use Rattle.rules.specs.Reading.{close, atom_of, sum_of}
use Rattle.rules.specs.Tree.{Tree, Trees, apply, none, more, size, sizes, tamtplus}
use Rattle.sheet.specs.declared.Place.{Place}
use Rattle.tree.specs.declared.area.Area.{Area}
use Rattle.tree.specs.Areas.{trees_in, Pushes}
use Rattle.tree.specs.Spelled.{text_in}
use Rattle.text.proofs.Frames.{outside_same, outside_within}
use Rattle.tree.proofs.Keeping.{lent_same, adds_grows, adds_then, adds_push, grows_trees, pushed_some, pushed_inside, pushed_trees}
use Rattle.tree.proofs.Spelling.{text_lent}
use Rattle.closing.specs.declared.Ordered.{Ordered}
use Rattle.closing.specs.Machine.{back}
use Rattle.closing.specs.Closing.{NoTree}
use Rattle.closing.specs.Areas.{room_for, OrdersIn, PutsInOrder, Shuts, ClosesIn}
use Rattle.closing.proofs.AtomTrees.{letter_only}
use Rattle.closing.proofs.Turns.{back_sizes}

-- what is known of the answer
pub closes_none : (a b : Area) (room next : ℕ) (o : Option Tree) {r : Option ℕ} → r ≡ None → ClosesIn a b room next o None → ClosesIn a b room next o r
closes_none a b room next o e h = subst (ClosesIn a b room next o) (sym e) h

-- nothing is written
pub closes_not : (a : Area) (room next : ℕ) {o : Option Tree} → NoTree o → ClosesIn a a room next o None
closes_not a room next h = (h, lent_same a, refl, outside_same a.work.now (4 * a.free) (4 * (a.free + room)))

pub closes_of : (a b : Area) (room next : ℕ) {o q : Option Tree} (r : Option ℕ) → o ≡ q → ClosesIn a b room next o r → ClosesIn a b room next q r
closes_of a b room next r e h = subst (λ (p : Option Tree). ClosesIn a b room next p r) e h

-- an application of too many nodes
pub list_over : (a b : Area) (chain next : ℕ) (n : Text) → PutsInOrder a b chain None → ClosesIn a b (room_for a chain) next (Some (apply n (back (trees_in a chain) none))) None
unfolding size
list_over a b chain next n h = (
  (λ t e.
      let z : 1 + sizes (back (trees_in a chain) none) ≡ size t = ap size (some_injective (apply n (back (trees_in a chain) none)) t e) in
      omega (arith, back_sizes (trees_in a chain) none, h.0)),
  h.1.lent,
  h.2,
  outside_within (omega arith) (omega (arith, h.2)) h.1.grown,
)

module _ {a b : Area} {chain : ℕ} {r : Ordered} (o : OrdersIn a b chain r) where
  pub list_counted : (r.nodes + 1 ≡ 1 + sizes (trees_in b r.first)) × (r.nodes + 1 < 65536)
  unfolding size
  list_counted = (omega (arith, o.counted, ap sizes o.trees, back_sizes (trees_in a chain) none), omega (arith, o.small))

  pub list_shut : {d : Area} {next k : ℕ} (p : Place) → next < a.free → Pushes b d k next (apply (text_in b p) (trees_in b r.first))
      → Shuts a d (room_for a chain) next (Some (apply (text_in a p) (back (trees_in a chain) none))) k
  unfolding size
  list_shut {d} {next} {k} p q x =
      let e = ap₂ apply (text_lent p o.adds.lent) o.trees in
      record {
        tree = apply (text_in a p) (back (trees_in a chain) none);
        is = refl;
        small = omega (arith, o.small, o.counted, back_sizes (trees_in a chain) none);
        adds = adds_then o.adds (adds_push x);
        used = omega (arith, o.used, x.end);
        some_cell = pushed_some x;
        inside = pushed_inside x;
        new = omega (arith, o.adds.grew, x.cell);
        last = omega (arith, x.cell, x.end);
        trees = pushed_trees x ∙ ap₂ more e (grows_trees (adds_grows o.adds) next q);
      }

-- What a closed list is, by its name: m is the text that the code holds
close_by : (n : Text) (ts : Trees) {b c : Bool} → letter_name n ≡ b → same n tamtplus ≡ c → close n ts ≡ elim b [ true ↦ atom_of n ts | false ↦ elim c [ true ↦ sum_of ts | false ↦ Some (apply n ts) ] ]
unfolding close
close_by n ts e f = ap₂ (λ (x y : Bool). elim x [ true ↦ atom_of n ts | false ↦ elim y [ true ↦ sum_of ts | false ↦ Some (apply n ts) ] ]) e f

module _ {n m : Text} (p : m ≡ n) (ts : Trees) where
  pub close_atom : {b : ℕ} → name_letter m ≡ Some b → (7 ≤ b) × (atom_of (b ∷ []) ts ≡ close n ts)
  close_atom {b} e =
      let (f, g) = letter_found m b e in
      let h = letter_only m f in
      (omega (arith, h.1, g), ap (λ (k : ℕ). atom_of (k ∷ []) ts) (sym g) ∙ ap (λ (x : Text). atom_of x ts) (sym h.0) ∙ sym (close_by m ts f refl) ∙ ap (λ (x : Text). close x ts) p)

  module _ {t : Bool} (f : t ≡ same m tamtplus) (e : name_letter m ≡ None) where
    pub close_sum : t ≡ true → (n ≡ tamtplus) × (sum_of ts ≡ close n ts)
    close_sum h = (sym p ∙ same_eq m tamtplus (sym f ∙ h), sym (close_by m ts (no_letter_found m e) (sym f ∙ h)) ∙ ap (λ (x : Text). close x ts) p)

    pub close_list : t ≡ false → Some (apply n ts) ≡ close n ts
    close_list h = ap (λ (x : Text). Some (apply x ts)) (sym p) ∙ sym (close_by m ts (no_letter_found m e) (sym f ∙ h)) ∙ ap (λ (x : Text). close x ts) p
