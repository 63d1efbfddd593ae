-- Whether members cover: the pairs of each can be matched with the fuel and the room there are. Definitions only.
use Rattle.std.specs.Prelude.{ℕ, ◌≤◌, ◌≡◌, false, length}
use mathlib.Core.List.{List, map, Memᴰ}
use Rattle.std.specs.Prelude.{Some}
use Rattle.rules.specs.Bytes.{Text}
use Rattle.rules.specs.Maybe.{every}
use Rattle.rules.specs.Substitution.{Pair}
use Rattle.rules.specs.Sheet.{Entry, Member}
use Rattle.rules.specs.Cover.{pair_at, covers}
use Rattle.substitution.specs.Bindings.{bindings_at}
use Rattle.sheet.specs.Lines.{lines_at}
use Rattle.forms.specs.Members.{members_at, EntriesThen, EntriesFrom}
use Rattle.unifier.specs.Matched.{Matched}
use Rattle.variables.specs.Pairing.{names_at}

abbrev pub PairsOf : Text → List ℕ → ℕ → ℕ → Member → List Pair → Type 0
PairsOf s w names bindings m qs = every (map (pair_at (bindings_at s w bindings) m) (names_at s w names)) ≡ Some qs

-- those of the member with the entries from a position on
pub record Matchable (s : Text) (w : List ℕ) (n names bindings at : ℕ) : Type 0 where
  pub value : Text
  pub entries : List Entry
  pub reads : EntriesFrom s at entries
  pub matched : (qs : List Pair) → PairsOf s w names bindings (value, entries) qs → Matched s w n qs

-- those of all members from a position on
pub record AllMatchable (s : Text) (w : List ℕ) (n names bindings at : ℕ) : Type 0 where
  pub members : List Member
  pub reads : members_at s at ≡ Some members
  pub matched : (m : Member) → Memᴰ m members → (qs : List Pair) → PairsOf s w names bindings m qs → Matched s w n qs

-- the member with the entries from `at` on covers; or it does not, and its entries end at c
pub record Uncovered (s : Text) (w : List ℕ) (names bindings at c : ℕ) : Type 0 where
  pub low : at ≤ c
  pub high : c ≤ length s
  pub ends : (es : List Entry) (rest : List Text) → EntriesThen s at es rest → lines_at s c ≡ Some rest
  pub is : (x : Text) (es : List Entry) → EntriesFrom s at es → covers (names_at s w names) (bindings_at s w bindings) (x, es) ≡ false
