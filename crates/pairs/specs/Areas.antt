-- The pairs of lines `left`, `right` of a sheet as trees of an area: what reading one of them and all of them gives. Definitions only.
use Rattle.std.specs.Prelude.{ℕ, ◌+◌, ◌*◌, ◌-◌, ◌<◌, ◌≤◌, ◌≡◌, List, length, Option, Some, None}
use Rattle.rules.specs.Bytes.{Text}
use Rattle.rules.specs.Tree.{none, more, count}
use Rattle.rules.specs.Substitution.{Pair, flatten}
use Rattle.rules.specs.Sheet.{Entry}
use Rattle.rules.specs.Answer.{read_pair, read_pairs}
use Rattle.tree.specs.declared.area.Area.{Area}
use Rattle.tree.specs.Areas.{trees_in, Grows}
use Rattle.tree.specs.Lists.{back}
use Rattle.sheet.specs.Lines.{lines_at}
use Rattle.sheet.specs.declared.Read.{Read}
use Rattle.sheet.specs.declared.Sides.{Sides}
use Rattle.forms.specs.Form.{entry_of}
use Rattle.pairs.specs.Pairs.{pair_end, PairsFrom}

-- the sides of a pair, the right one first, before the list from cell `list` on
pub record ReadPairIn (a b : Area) (p : Sides) (list i : ℕ) : Type 0 where
  pub pair : Pair
  pub read : read_pair (entry_of a.sheet.now p.left p.right) ≡ Some pair
  pub grows : Grows a b
  pub inside : i < b.free
  pub trees : trees_in b i ≡ more pair.1 (more pair.0 (trees_in a list))
  pub used : b.free ≤ pair_end a.free p.left p.right

-- or one of them is unreadable
abbrev pub ReadsPairIn : Area → Area → Sides → ℕ → Option ℕ → Type 0
ReadsPairIn a b p list (Some i) = ReadPairIn a b p list i
ReadsPairIn a b p list None = (read_pair (entry_of a.sheet.now p.left p.right) ≡ None) × Grows a b

-- the list of all pairs from a position on, backwards. Two cells for each byte of them are enough for this list and for turning it round
pub record ReversedIn (a b : Area) (at : ℕ) (r : Read ℕ) : Type 0 where
  pub ps : List Pair
  pub read : (es : List Entry) (rest : List Text) → PairsFrom a.sheet.now at es rest → read_pairs es ≡ Some ps
  pub lines : (es : List Entry) (rest : List Text) → PairsFrom a.sheet.now at es rest → lines_at b.sheet.now r.next.at ≡ Some rest
  pub grows : Grows a b
  pub onward : at ≤ r.next.at
  pub within : r.next.at ≤ length b.sheet.now
  pub inside : r.value < b.free
  pub trees : back (trees_in b r.value) none ≡ flatten ps
  pub used : b.free + count (trees_in b r.value) ≤ a.free + 2 * (r.next.at - at)

abbrev pub ReadsReversedIn : Area → Area → ℕ → Option (Read ℕ) → Type 0
ReadsReversedIn a b at (Some r) = ReversedIn a b at r
ReadsReversedIn a b at None = ((es : List Entry) (rest : List Text) → PairsFrom a.sheet.now at es rest → read_pairs es ≡ None) × Grows a b

-- the list of the pairs es from a position on, which end where the lines rest follow
pub record InOrder (a b : Area) (at : ℕ) (es : List Entry) (rest : List Text) (r : Read ℕ) : Type 0 where
  pub ps : List Pair
  pub read : read_pairs es ≡ Some ps
  pub lines : lines_at b.sheet.now r.next.at ≡ Some rest
  pub grows : Grows a b
  pub onward : at ≤ r.next.at
  pub within : r.next.at ≤ length b.sheet.now
  pub inside : r.value < b.free
  pub trees : trees_in b r.value ≡ flatten ps
  pub used : b.free ≤ a.free + 2 * (r.next.at - at)

-- or one of them is unreadable
abbrev pub ReadsInOrder : Area → Area → ℕ → Option (Read ℕ) → Type 0
ReadsInOrder a b at (Some r) = (es : List Entry) (rest : List Text) → PairsFrom a.sheet.now at es rest → InOrder a b at es rest r
ReadsInOrder a b at None = ((es : List Entry) (rest : List Text) → PairsFrom a.sheet.now at es rest → read_pairs es ≡ None) × Grows a b
