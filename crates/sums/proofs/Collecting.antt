-- The cells of summands gathered in words, and their trees.
use Prim.Native.Nat.{ℕ, ◌+◌, ◌-◌, ◌<◌, ◌≤◌}
use mathlib.Core.Path.{◌≡◌, refl, sym, ap, subst, ◌∙◌}
use mathlib.Core.Bool.{Bool, true, false}
use mathlib.Core.List.{List, [], ◌∷◌, ◌++◌}
use lib.ListN.{length, length-append, get_or-append}
use native.Mathlib.Omega.{arith}
use native.Mathlib.Decide.{dec_lt}
use Rattle.std.proofs.lemmas.List.{get_or-append_right}
use Rattle.rules.specs.Bytes.{Text}
use Rattle.rules.specs.Tree.{Tree, variable, atom, apply, Trees, size, sizes}
use Rattle.rules.specs.Sums.{summands, summands_of, unless_sum}
use Rattle.text.proofs.Slices.{slice_none}
use Rattle.text.specs.Frames.{Wrote}
use Rattle.text.proofs.Frames.{outside_same}
use Rattle.tree.specs.declared.area.Area.{Area}
use Rattle.tree.specs.Areas.{first_in, next_in, name_in, tree_in, trees_in, sum_in, CellIn}
use Rattle.tree.specs.Lists.{cells_from}
use Rattle.tree.proofs.Lists.{list_none, list_more, list_size}
use Rattle.tree.proofs.ByKind.{tree_application}
use Rattle.tree.proofs.Walks.{walk_ends, walk_goes}
use Rattle.flattening.proofs.WriterSteps.{wrote_append}
use Rattle.flattening.specs.declared.writer.Writer.{Writer}
use Rattle.flattening.specs.Writers.{Appended}
use Rattle.sums.specs.Sums.{remaining, heft}
use Rattle.sums.specs.Summands.{trees_of, heft_in, AreCells, CollectsCells, CellsWritten}
use Rattle.sums.proofs.Summanding.{remaining_some, remaining_append, heft_append}
use Rattle.sums.proofs.Describing.{heft_count}
use Rattle.sums.proofs.InAreas.{sum_kind}

pub are_append : (a : Area) (cs ds : List ℕ) → AreCells a cs → AreCells a ds → AreCells a (cs ++ ds)
are_append a cs ds h k q l = elim (dec_lt q (length cs)) [
  | yes y ↦ rw (get_or-append cs ds 0 q y) (h q y)
  | no n ↦ rw (get_or-append_right cs ds (length cs) q 0 refl (omega arith)) (k (q - length cs) (omega (arith, length-append cs ds)))
]

-- a tree that is no sum is its own summand
one_summand : (t : Tree) → sum_in t ≡ false → summands t ≡ t ∷ []
unfolding summands
one_summand (variable x) e = refl
one_summand (atom c d) e = refl
one_summand (apply f ts) e = rw e refl

summands_sum : (f : Text) (ts : Trees) (t : Tree) → t ≡ apply f ts → sum_in t ≡ true → summands t ≡ summands_of ts
unfolding summands
summands_sum f ts t e g = ap summands e ∙ ap (λ (b : Bool). unless_sum b (summands_of ts) (apply f ts)) (sym (ap sum_in e) ∙ g)

-- the list below a sum has a node less
pub sum_size : (a : Area) (i : ℕ) {j : ℕ} → j ≡ first_in a i → true ≡ sum_in (tree_in a i) → size (tree_in a i) ≡ 1 + sizes (trees_in a j)
unfolding size
sum_size a i {j} f e = ap size (tree_application a i (sum_kind a i (sym e)) ∙ ap (λ (j : ℕ). apply (name_in a i) (trees_in a j)) (sym f))

module _ {a : Area} {x y : Writer} (i : ℕ) where
  pub gathers_leaf : 0 < i → i < a.free → false ≡ sum_in (tree_in a i) → Appended x y (i ∷ []) → CellsWritten a x y (size (tree_in a i)) (summands (tree_in a i))
  unfolding heft remaining
  gathers_leaf p q e g = record {
    lent = g.lent;
    collected = record {
      cells = i ∷ [];
      wrote = g.wrote;
      ends = g.end;
      are = λ k l. (let z : k ≡ 0 = omega arith in rw z (p, q));
      light = omega arith;
      trees = remaining_some a.sheet.now a.work.now i [] p ∙ sym (one_summand (tree_in a i) (sym e));
    };
  }

  pub gathers_sum : {j : ℕ} → j ≡ first_in a i → true ≡ sum_in (tree_in a i) → CellsWritten a x y (sizes (trees_in a j)) (summands_of (trees_in a j))
      → CellsWritten a x y (size (tree_in a i)) (summands (tree_in a i))
  gathers_sum {j = j} f e g =
      let t : tree_in a i ≡ apply (name_in a i) (trees_in a j) = tree_application a i (sum_kind a i (sym e)) ∙ ap (λ (j : ℕ). apply (name_in a i) (trees_in a j)) (sym f) in
      let h = g.collected in
      record {
        lent = g.lent;
        collected = record {
          cells = h.cells;
          wrote = h.wrote;
          ends = h.ends;
          are = h.are;
          light = omega (arith, h.light, sum_size a i f e);
          trees = h.trees ∙ sym (summands_sum (name_in a i) (trees_in a j) (tree_in a i) t (sym e));
        };
      }

-- at the head of the loop: the list from cell i on is left
pub record Gathering (a : Area) (w v : List ℕ) (at end list i : ℕ) : Type 0 where
  pub falls : i ≤ list
  pub cells : List ℕ
  pub wrote : Wrote w v at cells
  pub ends : end ≡ at + length cells
  pub are : AreCells a cells
  pub light : heft_in a cells + sizes (trees_in a i) ≤ sizes (trees_in a list)
  pub trees : trees_of a cells ++ summands_of (trees_in a i) ≡ summands_of (trees_in a list)

pub gathering_starts : (a : Area) (w : List ℕ) (at list : ℕ) → Gathering a w w at at list list
unfolding heft remaining
gathering_starts a w at list = record {
  falls = omega arith;
  cells = [];
  wrote = record { outside = outside_same w at (at + 0); words = slice_none at (at + 0) w (omega arith) };
  ends = omega arith;
  are = λ q l. absurd (omega arith);
  light = omega arith;
  trees = refl;
}

module _ {a : Area} {w v : List ℕ} {at end list i : ℕ} (h : Gathering a w v at end list i) where
  pub gathering_ends : i ≡ 0 → CollectsCells a w v at end (sizes (trees_in a list)) (summands_of (trees_in a list))
  unfolding summands
  gathering_ends z = record {
    cells = h.cells;
    wrote = h.wrote;
    ends = h.ends;
    are = h.are;
    light = omega (arith, h.light);
    trees = sym (mathlib.Core.List.append-nil (trees_of a h.cells)) ∙ ap (λ (ts : Trees). trees_of a h.cells ++ summands_of ts) (sym (list_none a i z)) ∙ h.trees;
  }

  module _ (p : 0 < i) (q : i < a.free) (room : at + sizes (trees_in a list) ≤ length w) where
    pub gathering_room : end + size (tree_in a i) ≤ length v
    gathering_room = omega (arith, h.ends, h.light, h.wrote.outside.len, heft_count a.sheet.now a.work.now h.cells, list_size a i p q refl)

    pub gathering_next : {u : List ℕ} {to j : ℕ} → CollectsCells a v u end to (size (tree_in a i)) (summands (tree_in a i)) → j ≡ next_in a i → j < i → Gathering a w u at to list j
    unfolding summands
    gathering_next {j = j} g e f =
        let s = a.sheet.now in
        let w₁ = a.work.now in
        record {
          falls = omega (arith, h.falls);
          cells = h.cells ++ g.cells;
          wrote = wrote_append h.wrote g.wrote h.ends (omega (arith, h.ends, h.light, g.light, room, heft_count s w₁ h.cells, heft_count s w₁ g.cells, list_size a i p q refl));
          ends = omega (arith, h.ends, g.ends, length-append h.cells g.cells);
          are = are_append a h.cells g.cells h.are g.are;
          light = omega (arith, h.light, g.light, heft_append s w₁ h.cells g.cells, list_size a i p q e);
          trees = ap (λ (ts : List Tree). ts ++ summands_of (trees_in a j)) (remaining_append s w₁ h.cells g.cells ∙ ap (λ (ts : List Tree). trees_of a h.cells ++ ts) g.trees)
              ∙ mathlib.Core.List.append_assoc (trees_of a h.cells) (summands (tree_in a i)) (summands_of (trees_in a j))
              ∙ ap (λ (ts : Trees). trees_of a h.cells ++ summands_of ts) (sym (list_more a i p q e)) ∙ h.trees;
        }

-- the same by the cells that are left of the list, and by the writer y, which was x
pub record GatheringCells (a : Area) (x y : Writer) (list : ℕ) (left : List ℕ) : Type 0 where
  pub lent : y.words.ghost_name ≡ x.words.ghost_name
  pub cell : ℕ
  pub cells : left ≡ cells_from a cell
  pub inside : cell < a.free
  pub before : Gathering a x.words.now y.words.now x.end y.end list cell

module _ {a : Area} {x y : Writer} {list : ℕ} where
  pub cells_gathered : {left : List ℕ} → GatheringCells a x y list left → left ≡ [] → CellsWritten a x y (sizes (trees_in a list)) (summands_of (trees_in a list))
  cells_gathered h e = record { lent = h.lent; collected = gathering_ends h.before (walk_ends a h.cell (sym e ∙ h.cells) h.inside) }

  -- the next cell of the list
  module _ {i : ℕ} {left rest : List ℕ} (h : GatheringCells a x y list left) (e : left ≡ i ∷ rest) where
    pub gathering_cell : CellIn a i × (rest ≡ cells_from a (next_in a i)) × Gathering a x.words.now y.words.now x.end y.end list i
    gathering_cell =
        let n = walk_goes a h.cell (sym e ∙ h.cells) h.inside in
        ((n.1, omega (arith, n.0, h.inside)), n.2, subst (λ (k : ℕ). Gathering a x.words.now y.words.now x.end y.end list k) n.0 h.before)

    pub gathering_turn : {z : Writer} → x.end + sizes (trees_in a list) ≤ length x.words.now → CellsWritten a y z (size (tree_in a i)) (summands (tree_in a i)) → GatheringCells a x z list rest
    gathering_turn room g =
        let n = gathering_cell in
        let l = a.arena.links.next i n.0.0 n.0.1 in
        record { lent = g.lent ∙ h.lent; cell = next_in a i; cells = n.1; inside = omega (arith, n.0.1); before = gathering_next n.2 n.0.0 n.0.1 room g.collected refl (omega arith) }
