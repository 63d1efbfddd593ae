-- The values that a member gives variables as bindings in an area, and the pairs by which it covers as a list of trees there. Definitions
-- only.
use Rattle.std.specs.Prelude.{ℕ, ◌+◌, ◌*◌, ◌-◌, ◌^◌, ◌<◌, ◌≤◌, ◌≡◌, true, false, List, ◌∷◌, map, length, Option, Some, None}
use Rattle.rules.specs.Bytes.{Text}
use Rattle.rules.specs.Text.{is_one_of}
use Rattle.rules.specs.Maybe.{every}
use Rattle.rules.specs.Tree.{count}
use Rattle.rules.specs.Substitution.{Pair, lookup, flatten}
use Rattle.rules.specs.Matching.{bound}
use Rattle.rules.specs.Sheet.{Entry}
use Rattle.rules.specs.Cover.{pair_at}
use Rattle.sheet.specs.declared.Place.{Place}
use Rattle.sheet.specs.declared.Read.{Read}
use Rattle.sheet.specs.Lines.{lines_at}
use Rattle.forms.specs.Form.{entry_of}
use Rattle.forms.specs.Members.{EntriesThen, EntriesFrom}
use Rattle.tree.specs.declared.area.Area.{Area}
use Rattle.tree.specs.Areas.{name_in, trees_in, Grows}
use Rattle.substitution.specs.Areas.{bindings_in}
use Rattle.variables.specs.Areas.{names_in}
use Rattle.variables.specs.declared.pairing.Solution.{Solution}
use Rattle.values.specs.Values.{value_in, resumed, OneUnread}

-- cell k is the variable x, which is one of ns
pub record FoundVariable (a : Area) (ns : List Text) (x : Text) (k : ℕ) : Type 0 where
  pub some_cell : 0 < k
  pub inside : k < a.free
  pub named : name_in a k ≡ x
  pub present : is_one_of ns x ≡ true

-- or x is none of them
abbrev pub FindsVariableIn : Area → List Text → Text → Option ℕ → Type 0
FindsVariableIn a ns x (Some k) = FoundVariable a ns x k
FindsVariableIn a ns x None = is_one_of ns x ≡ false

-- the bindings of b from cell i on are those of a from cell `list` on with the entry's
pub record ValuedIn (a b : Area) (ns : List Text) (key value : Place) (list i : ℕ) : Type 0 where
  pub grows : Grows a b
  pub inside : i < b.free
  pub used : b.free ≤ a.free + 2 * (value.to - value.from) + 2
  pub keeps : (fs : List Entry) (y : Text) → is_one_of ns y ≡ true
      → resumed (bound y (bindings_in a list)) (value_in (entry_of a.sheet.now key value ∷ fs) y) ≡ resumed (bound y (bindings_in b i)) (value_in fs y)

-- or the value of a variable cannot be read
pub record UnreadValue (a b : Area) (ns : List Text) (key value : Place) (list : ℕ) : Type 0 where
  pub name : Text
  pub one : is_one_of ns name ≡ true
  pub fails : (fs : List Entry) → resumed (bound name (bindings_in a list)) (value_in (entry_of a.sheet.now key value ∷ fs) name) ≡ None
  pub grows : Grows a b

abbrev pub ReadsValueIn : Area → Area → List Text → Place → Place → ℕ → Option ℕ → Type 0
ReadsValueIn a b ns key value list (Some i) = ValuedIn a b ns key value list i
ReadsValueIn a b ns key value list None = UnreadValue a b ns key value list

-- the bindings of b from a cell on give each of ns the tree that the entries from `at` to a cursor give it
pub record ValuesIn (a b : Area) (ns : List Text) (at : ℕ) (r : Read ℕ) : Type 0 where
  pub low : at ≤ r.next.at
  pub high : r.next.at ≤ length a.sheet.now
  pub ends : (es : List Entry) (rest : List Text) → EntriesThen a.sheet.now at es rest → lines_at a.sheet.now r.next.at ≡ Some rest
  pub grows : Grows a b
  pub inside : r.value < b.free
  pub used : b.free ≤ a.free + 2 * (r.next.at - at)
  pub gives : (es : List Entry) → EntriesFrom a.sheet.now at es → (y : Text) → is_one_of ns y ≡ true → value_in es y ≡ Some (lookup (bindings_in b r.value) y)

-- or of one of them the value cannot be read
abbrev pub ReadsValuesIn : Area → Area → List Text → ℕ → Option (Read ℕ) → Type 0
ReadsValuesIn a b ns at (Some r) = ValuesIn a b ns at r
ReadsValuesIn a b ns at None = OneUnread a.sheet.now ns at × Grows a b

-- room for the pairs of a member's values and a list of names: two cells for each byte of the sheet and for each name
abbrev pub PairsRoomIn : Area → ℕ → Type 0
PairsRoomIn a names = (4 * a.free + 11 * length a.sheet.now + 9 + 8 * count (trees_in a names) ≤ length a.work.now) × (a.free + 2 * length a.sheet.now + 2 + 2 * count (trees_in a names) < 2 ^ 32)

-- the list from a cell on in b is that of the pairs of a solution and a member with the entries from `at` to a cursor
pub record MemberPairedIn (a b : Area) (s : Solution) (at : ℕ) (p : Read ℕ) : Type 0 where
  pub low : at ≤ p.next.at
  pub high : p.next.at ≤ length a.sheet.now
  pub ends : (es : List Entry) (rest : List Text) → EntriesThen a.sheet.now at es rest → lines_at a.sheet.now p.next.at ≡ Some rest
  pub ps : List Pair
  pub are : (x : Text) (es : List Entry) → EntriesFrom a.sheet.now at es → every (map (pair_at (bindings_in a s.bindings) (x, es)) (names_in a s.names)) ≡ Some ps
  pub grows : Grows a b
  pub inside : p.value < b.free
  pub trees : trees_in b p.value ≡ flatten ps
  pub used : b.free ≤ a.free + 2 * (p.next.at - at) + 2 * count (trees_in a s.names)

-- or one of its values cannot be read
abbrev pub PairsUpMemberIn : Area → Area → Solution → ℕ → Option (Read ℕ) → Type 0
PairsUpMemberIn a b s at (Some p) = MemberPairedIn a b s at p
PairsUpMemberIn a b s at None =
    ((x : Text) (es : List Entry) → EntriesFrom a.sheet.now at es → every (map (pair_at (bindings_in a s.bindings) (x, es)) (names_in a s.names)) ≡ None) × Grows a b
