-- Where a member stands, its keys and their values as one list of bindings, and the room that its texts take. Definitions only.
use Rattle.std.specs.Prelude.{ℕ, ◌+◌, ◌*◌, ◌-◌, ◌<◌, ◌≤◌, ◌^◌, ◌≡◌, Bool, true, false, cond, not, List, [], ◌∷◌, eqb, length, get_or}
use Rattle.std.specs.Prelude.{Some}
use Rattle.rules.specs.Bytes.{Text}
use Rattle.rules.specs.Tree.{Tree, variable, Trees, more}
use Rattle.rules.specs.Substitution.{Binding, lookup}
use Rattle.rules.specs.Sheet.{Entry, Member, distinct_keys}
use Rattle.forms.specs.Members.{members_at, EntriesThen}
use Rattle.sheet.specs.declared.Place.{Place}

-- a text that a variable's cell may have for its name: not empty, and no atom's text
unfoldable pub nameable : Text → Bool
nameable [] = false
nameable (a ∷ n) = not (eqb (get_or n 0 0) 40)

-- a binding before a list, unless no variable can have the key for its name
unfoldable pub binding_before : Text → Tree → Trees → Trees
binding_before x t ts = cond (nameable x) (more (variable x) (more t ts)) ts

-- bindings that give every variable the same value
abbrev pub Alike : List Binding → List Binding → Type 0
Alike bs cs = (x : Text) → nameable x ≡ true → lookup bs x ≡ lookup cs x

-- the cells end at most here after an entry: two for each byte of its value, and two for the list
abbrev pub entry_end : ℕ → Place → ℕ
entry_end free value = free + 2 * (value.to - value.from) + 2

-- the cells of all texts from a position on end at most here
abbrev pub texts_end : Text → ℕ → ℕ → ℕ
texts_end s n at = n + 2 * (length s - at)

-- room for them, and for the reader's stack above them
abbrev pub TextsRoom : Text → List ℕ → ℕ → ℕ → Type 0
TextsRoom s w n at = (length s ≤ 65536) × (4 * texts_end s n at + 3 * length s < length w) × (texts_end s n at < 2 ^ 32)

-- entries stand from a position on, or none, with no key twice, and then other lines
pub record DistinctEntries (s : Text) (at : ℕ) : Type 0 where
  pub entries : List Entry
  pub rest : List Text
  pub are : EntriesThen s at entries rest
  pub distinct : distinct_keys entries [] ≡ true

-- a member stands at a position, and others after it
pub record MemberThere (s : Text) (at : ℕ) : Type 0 where
  pub member : Member
  pub later : List Member
  pub are : members_at s at ≡ Some (member ∷ later)
