-- A member's texts as trees of an area, its keys and their values as one list of bindings, the last first, and what is claimed of a member
-- against a term. Definitions only.
use Rattle.std.specs.Prelude.{ℕ, ◌+◌, ◌*◌, ◌-◌, ◌<◌, ◌≤◌, ◌≡◌, Bool, List, [], ◌∷◌, map, length, Option, Some, None}
use Rattle.rules.specs.Bytes.{Text}
use Rattle.rules.specs.Text.{bytes}
use Rattle.rules.specs.Maybe.{every}
use Rattle.rules.specs.Tree.{Tree, size, sizes}
use Rattle.rules.specs.Reading.{parse}
use Rattle.rules.specs.Substitution.{Binding}
use Rattle.rules.specs.Sheet.{Entry, Member}
use Rattle.rules.specs.Variants.{read_entry, read_member, sound}
use Rattle.tree.specs.declared.area.Area.{Area}
use Rattle.tree.specs.Areas.{tree_in, trees_in, Grows}
use Rattle.tree.specs.Spelled.{text_in}
use Rattle.substitution.specs.Bindings.{Chain}
use Rattle.substitution.specs.Areas.{bindings_in}
use Rattle.sheet.specs.Pairs.{two_lines_at}
use Rattle.sheet.specs.declared.Read.{Read}
use Rattle.sheet.specs.declared.Sides.{Sides}
use Rattle.forms.specs.Members.{members_at, EntriesFrom, Walks}
use Rattle.variants.specs.Members.{Alike, binding_before, entry_end}
use Rattle.variants.specs.Soundness.{reduces_to}
use Rattle.variants.specs.declared.members.Variant.{Variant}

-- a value of the entries from a position on is no term
abbrev pub UnreadEntries : Text → ℕ → Type 0
UnreadEntries s at = (es : List Entry) → EntriesFrom s at es → every (map read_entry es) ≡ None

-- a text of the member at a position is no term
abbrev pub UnreadMember : Text → ℕ → Type 0
UnreadMember s at = (m : Member) (ms : List Member) → members_at s at ≡ Some (m ∷ ms) → read_member m ≡ None

-- a key with its value before the list from cell `list` on
pub record ReadEntryIn (a b : Area) (e : Sides) (list i : ℕ) : Type 0 where
  pub tree : Tree
  pub read : parse (text_in a e.right) ≡ Some tree
  pub grows : Grows a b
  pub used : b.free ≤ entry_end a.free e.right
  pub inside : i < b.free
  pub trees : trees_in b i ≡ binding_before (text_in a e.left) tree (trees_in a list)

-- or the value is unreadable
abbrev pub ReadsEntryIn : Area → Area → Sides → ℕ → Option ℕ → Type 0
ReadsEntryIn a b e list (Some i) = ReadEntryIn a b e list i
ReadsEntryIn a b e list None = (parse (text_in a e.right) ≡ None) × Grows a b

-- the entries from `at` on read as bs; the list of bindings gives every variable the same value as bs
pub record ReadEntriesIn (a b : Area) (at : ℕ) (r : Read ℕ) : Type 0 where
  pub walk : Walks (bytes "key=") (bytes "value=") a.sheet.now at r.next.at
  pub stops : None ≡ two_lines_at (bytes "key=") (bytes "value=") a.sheet.now r.next.at
  pub bs : List Binding
  pub read : every (map read_entry walk.es) ≡ Some bs
  pub alike : Alike (bindings_in b r.value) bs
  pub chain : Chain (trees_in b r.value)
  pub grows : Grows a b
  pub used : b.free ≤ a.free + 2 * (r.next.at - at)
  pub light : sizes (trees_in b r.value) ≤ r.next.at - at
  pub inside : r.value < b.free

-- or a value of them is unreadable
abbrev pub ReadsEntriesIn : Area → Area → ℕ → Option (Read ℕ) → Type 0
ReadsEntriesIn a b at (Some r) = ReadEntriesIn a b at r
ReadsEntriesIn a b at None = UnreadEntries a.sheet.now at × Grows a b

-- the member m reads as the tree and the bindings bs; the list of bindings gives every variable the same value as bs; the members ms follow
pub record MemberReadsIn (b : Area) (v : Variant) (m : Member) (ms : List Member) : Type 0 where
  pub bs : List Binding
  pub read : read_member m ≡ Some (tree_in b v.value, bs)
  pub alike : Alike (bindings_in b v.bindings) bs
  pub later : members_at b.sheet.now v.next.at ≡ Some ms

-- the member at a position; its line's key and end leave two cells and two nodes
pub record ReadMemberIn (a b : Area) (at : ℕ) (v : Variant) : Type 0 where
  pub grows : Grows a b
  pub reads : (m : Member) (ms : List Member) → members_at a.sheet.now at ≡ Some (m ∷ ms) → MemberReadsIn b v m ms
  pub small : size (tree_in b v.value) ≤ 4096
  pub chain : Chain (trees_in b v.bindings)
  pub used : b.free + 2 ≤ a.free + 2 * (v.next.at - at)
  pub light : size (tree_in b v.value) + sizes (trees_in b v.bindings) + 2 ≤ v.next.at - at
  pub placed : (0 < v.value) × (v.value < b.free)
  pub inside : v.bindings < b.free
  pub onward : at < v.next.at
  pub within : v.next.at ≤ length b.sheet.now

-- or a text of it is unreadable
abbrev pub ReadsMemberIn : Area → Area → ℕ → Option Variant → Type 0
ReadsMemberIn a b at (Some v) = ReadMemberIn a b at v
ReadsMemberIn a b at None = UnreadMember a.sheet.now at × Grows a b

-- the instance of the tree of a cell under a member's bindings, against its tree
abbrev pub ClaimsInstanceIn : Area → Area → ℕ → Variant → Option Bool → Type 0
ClaimsInstanceIn a b term v r = (r ≡ reduces_to (bindings_in a v.bindings) (tree_in a term) (tree_in a v.value)) × Grows a b

-- the one member at a position, as a variant of the tree of a cell
abbrev pub ClaimsSoundIn : Area → Area → ℕ → ℕ → Option Bool → Type 0
ClaimsSoundIn a b term at r = ((m : Member) → members_at a.sheet.now at ≡ Some (m ∷ []) → r ≡ sound (tree_in a term) m) × Grows a b
