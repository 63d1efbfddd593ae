-- The places of variables in the words above an area: gathered of a tree and of a list of trees, and repeats among them.
use Prim.Native.Nat.{ℕ, ◌+◌, ◌*◌, ◌<◌, ◌≤◌}
use mathlib.Core.Path.{◌≡◌, refl, sym, ap, subst, ◌∙◌}
use mathlib.Core.Bool.{false}
use mathlib.Core.List.{List, [], ◌∷◌, ◌++◌, append_assoc, map}
use lib.ListN.{length, get_or}
use native.Mathlib.Omega.{arith}
use Rattle.std.specs.Prelude.{Option}
use Rattle.rules.specs.Bytes.{Text, same}
use Rattle.rules.specs.Tree.{Trees, size, sizes, variable_names, variable_names_in}
use Rattle.rules.specs.declared.Sort.{Sort}
use Rattle.text.specs.Places.{text_at}
use Rattle.tree.specs.declared.area.Area.{Area}
use Rattle.tree.specs.declared.kinds.Kind.TheVariants.{Application, Variable, Atom}
use Rattle.tree.specs.Cells.{kind_of, trees_at}
use Rattle.tree.specs.Areas.{cell_kind, first_in, next_in, tree_in, trees_in, CellIn, Lent}
use Rattle.tree.specs.Lists.{cells_from}
use Rattle.tree.proofs.Decoding.{sizes_more, trees_none}
use Rattle.tree.proofs.ByKind.{number_application, number_variable, number_atom}
use Rattle.tree.proofs.Parting.{Parted, part_trees, joined_below}
use Rattle.tree.proofs.Walks.{walk_ends, walk_goes}
use Rattle.flattening.specs.declared.writer.Writer.{Writer}
use Rattle.flattening.specs.Writers.{Appended}
use Rattle.variables.specs.Variables.{Readable, ReadableAll, VariablePlaces, PlacesWritten, Ordered, repeats}
use Rattle.variables.specs.Areas.{GathersFrom}
use Rattle.variables.proofs.Dropping.{ordered_above}
use Rattle.variables.proofs.Naming.{named_append, named_empty, named_variable, named_atom, named_list, list_spelled, parts_spelled, parts_names}

-- ---- one tree

-- a variable
pub collect_variable : (a : Area) (i : ℕ) {x : ℕ} {o p : Writer} (v : Option Sort) → cell_kind a i ≡ Variable v → 0 < i → i < a.free → Readable (tree_in a i) → x ≡ get_or a.work.now (4 * i) 0 → Appended o p (x ∷ [])
    → PlacesWritten a.sheet.now o p (size (tree_in a i)) (variable_names (tree_in a i))
collect_variable a i {x} {o} {p} v e k l r f g =
    let n = number_variable (kind_of a.work.now i) v e in
    record { lent = g.lent; named = named_variable a.sheet.now a.work.now i o.end p.end a.arena k l n.0 n.1 r f g.wrote g.end }

-- an atom
pub collect_atom : (a : Area) (i c : ℕ) (o : Writer) → cell_kind a i ≡ Atom c → PlacesWritten a.sheet.now o o (size (tree_in a i)) (variable_names (tree_in a i))
collect_atom a i c o e = record { lent = refl; named = named_atom a.sheet.now a.work.now i o.words.now o.end o.end (number_atom (kind_of a.work.now i) c e).0 refl }

-- an application, by its children
module _ (a : Area) (i j : ℕ) (e : cell_kind a i ≡ Application) (f : j ≡ first_in a i) where
  pub children_readable : Readable (tree_in a i) → ReadableAll (trees_in a j)
  children_readable r = list_spelled a.sheet.now a.work.now i j (number_application (kind_of a.work.now i) e) f r

  pub collect_children : {o p : Writer} → PlacesWritten a.sheet.now o p (sizes (trees_in a j)) (variable_names_in (trees_in a j))
      → PlacesWritten a.sheet.now o p (size (tree_in a i)) (variable_names (tree_in a i))
  collect_children h = record { lent = h.lent; named = named_list a.sheet.now a.work.now i j (number_application (kind_of a.work.now i) e) f h.named }

-- ---- the loop over a list of trees

-- the places of the trees before cell i of the list are written from `at` to `end`
pub record Collecting (a : Area) (w v : List ℕ) (list at i end : ℕ) : Type 0 where
  pub nodes : ℕ
  pub names : List Text
  pub named : VariablePlaces a.sheet.now w v at end nodes names
  pub inside : i < a.free
  pub spelled : ReadableAll (trees_in a i)
  pub nodes_are : nodes + sizes (trees_in a i) ≡ sizes (trees_in a list)
  pub names_are : names ++ variable_names_in (trees_in a i) ≡ variable_names_in (trees_in a list)
  pub later : i ≤ list

pub collecting_starts : (a : Area) (w : List ℕ) (list at : ℕ) → list < a.free → ReadableAll (trees_in a list) → Collecting a w w list at list at
collecting_starts a w list at p b = record {
  nodes = 0;
  names = [];
  named = named_empty a.sheet.now w at at 0 [] refl refl;
  inside = p;
  spelled = b;
  nodes_are = omega arith;
  names_are = refl;
  later = omega arith;
}

module _ {a : Area} {w v : List ℕ} {list at i end : ℕ} (h : Collecting a w v list at i end) where
  pub collected : i ≡ 0 → VariablePlaces a.sheet.now w v at end (sizes (trees_in a list)) (variable_names_in (trees_in a list))
  unfolding variable_names
  collected z = record {
    kept = h.named.kept;
    grew = h.named.grew;
    most_is = omega (arith, h.named.most_is, h.nodes_are);
    places = h.named.places;
    are = h.named.are ∙ no_more h.names ∙ ap (λ (ts : Trees). h.names ++ variable_names_in ts) (sym (trees_none a.sheet.now a.work.now i z)) ∙ h.names_are;
  }
    where
      no_more : (l : List Text) → l ≡ l ++ []
      no_more [] = refl
      no_more (x ∷ l) = ap (λ (m : List Text). x ∷ m) (no_more l)

  module _ (p : 0 < i) where
    parts : Readable (tree_in a i) × ReadableAll (trees_in a (next_in a i))
    parts = parts_spelled a.sheet.now a.arena i p h.inside h.spelled

    pub collecting_readable : Readable (tree_in a i)
    collecting_readable = parts.0

    pub collecting_room : end + size (tree_in a i) ≤ at + sizes (trees_in a list)
    collecting_room = omega (arith, h.named.most_is, h.nodes_are, sizes_more a.sheet.now a.arena.links i p h.inside)

    pub collecting_turn : {u : List ℕ} {end₂ j : ℕ} → at + sizes (trees_in a list) ≤ length w → VariablePlaces a.sheet.now v u end end₂ (size (tree_in a i)) (variable_names (tree_in a i)) → j ≡ next_in a i → Collecting a w u list at j end₂
    collecting_turn {u} {end₂} {j} room g e =
        let t = size (tree_in a i) in
        let ns = variable_names (tree_in a i) in
        let sz = sizes_more a.sheet.now a.arena.links i p h.inside in
        let nodes_next : sizes (trees_in a j) ≡ sizes (trees_in a (next_in a i)) = ap (λ (j : ℕ). sizes (trees_in a j)) e in
        record {
          nodes = h.nodes + t;
          names = h.names ++ ns;
          named = named_append a.sheet.now w v u at end end₂ h.nodes t h.names ns h.named g (omega (arith, h.nodes_are));
          inside = omega (arith, a.arena.links.next i p h.inside, h.inside);
          spelled = subst (λ (j : ℕ). ReadableAll (trees_in a j)) (sym e) parts.1;
          nodes_are = omega (arith, h.nodes_are);
          names_are = append_assoc h.names ns (variable_names_in (trees_in a j))
              ∙ ap (λ (j : ℕ). h.names ++ (ns ++ variable_names_in (trees_in a j))) e
              ∙ ap (λ (ms : List Text). h.names ++ ms) (sym (parts_names a.sheet.now a.arena i p h.inside))
              ∙ h.names_are;
          later = omega (arith, h.later, a.arena.links.next i p h.inside);
        }

-- the same by the cells that are left of the list
pub record CollectingCells (a : Area) (w v : List ℕ) (list at : ℕ) (left : List ℕ) (end : ℕ) : Type 0 where
  pub cell : ℕ
  pub cells : left ≡ cells_from a cell
  pub before : Collecting a w v list at cell end

module _ {a : Area} {w v : List ℕ} {list at end : ℕ} where
  pub cells_collected : {left : List ℕ} → CollectingCells a w v list at left end → left ≡ [] → VariablePlaces a.sheet.now w v at end (sizes (trees_in a list)) (variable_names_in (trees_in a list))
  cells_collected h e = collected h.before (walk_ends a h.cell (sym e ∙ h.cells) h.before.inside)

  -- the next cell of the list
  module _ {i : ℕ} {left rest : List ℕ} (h : CollectingCells a w v list at left end) (e : left ≡ i ∷ rest) where
    next_cell : (0 < i) × (rest ≡ cells_from a (next_in a i)) × Collecting a w v list at i end
    next_cell =
        let n = walk_goes a h.cell (sym e ∙ h.cells) h.before.inside in
        (n.1, n.2, subst (λ (k : ℕ). Collecting a w v list at k end) n.0 h.before)

    pub cell_inside : CellIn a i × Readable (tree_in a i)
    cell_inside = let n = next_cell in ((n.0, n.2.inside), collecting_readable n.2 n.0)

    pub cell_room : (i ≤ list) × (length v ≡ length w) × (end + size (tree_in a i) ≤ at + sizes (trees_in a list))
    cell_room = let n = next_cell in (n.2.later, n.2.named.kept.len, collecting_room n.2 n.0)

    pub cell_turn : {u : List ℕ} {end₂ : ℕ} → at + sizes (trees_in a list) ≤ length w → VariablePlaces a.sheet.now v u end end₂ (size (tree_in a i)) (variable_names (tree_in a i)) → CollectingCells a w u list at rest end₂
    cell_turn room g = let n = next_cell in record { cell = next_in a i; cells = n.1; before = collecting_turn n.2 n.0 room g refl }

-- and by the writer y, which was x
pub record CollectingInto (a : Area) (x y : Writer) (list : ℕ) (left : List ℕ) : Type 0 where
  pub lent : y.words.ghost_name ≡ x.words.ghost_name
  pub cells : CollectingCells a x.words.now y.words.now list x.end left y.end

-- ---- all together

-- the words of an area are parted above its cells, and the places are in the second part
pub gathers_all : {a b : Area} {list from k : ℕ} {c r u : List ℕ} (h : Parted a.work.now c r from) → 4 * a.free ≤ from → list < a.free
    → Ordered a.sheet.now r u 0 k (sizes (trees_at a.sheet.now c list)) (variable_names_in (trees_at a.sheet.now c list)) → Lent a b → b.free ≡ a.free → b.work.now ≡ c ++ u
    → GathersFrom a b list from record { from = from; to = from + k }
gathers_all {a} {b} {list} {from} {k} {c} {r} {u} h above p o l e f =
    let t = part_trees h a.free above a.sheet.now a.arena list p in
    record {
      keeps = record { lent = l; end = e; below = rw f (joined_below h a.free above u o.kept.len) };
      start = refl;
      ordered = rw f (ordered_above h (rw t at o));
    }

-- ---- repeats

pub few_texts : (s : Text) (l : List ℕ) → length l < 2 → false ≡ repeats (map (text_at s) l)
unfolding repeats
few_texts s [] p = refl
few_texts s (x ∷ []) p = refl
few_texts s (x ∷ y ∷ l) p = absurd (omega arith)

pub two_texts : (s : Text) (l : List ℕ) → 2 ≤ length l → same (text_at s (get_or l 0 0)) (text_at s (get_or l 1 0)) ≡ repeats (map (text_at s) l)
unfolding repeats
two_texts s [] p = absurd (omega arith)
two_texts s (x ∷ []) p = absurd (omega arith)
two_texts s (x ∷ y ∷ l) p = refl
