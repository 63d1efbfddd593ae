-- The values that a member gives variables. Definitions only.
use Rattle.std.specs.Prelude.{ℕ, ◌≡◌, true, List}
use Rattle.std.specs.Prelude.{Option, Some, None}
use Rattle.rules.specs.Bytes.{Text}
use Rattle.rules.specs.Text.{is_one_of}
use Rattle.rules.specs.Tree.{Tree, variable}
use Rattle.rules.specs.Reading.{parse}
use Rattle.rules.specs.Sheet.{Entry}
use Rattle.rules.specs.Cover.{entry_at}
use Rattle.forms.specs.Members.{EntriesFrom}

-- the tree that entries give a variable
unfoldable pub value_in : List Entry → Text → Option Tree
unfolding entry_at parse
value_in es x = elim (entry_at es x) [ None ↦ Some (variable x) | Some text ↦ parse text ]

-- a tree that was found before, or else the other
abbrev pub resumed : Option Tree → Option Tree → Option Tree
resumed (Some t) o = Some t
resumed None o = o

-- of one of ns the value cannot be read
abbrev pub OneUnread : Text → List Text → ℕ → Type 0
OneUnread s ns at = (es : List Entry) → EntriesFrom s at es → (y : Text) × (is_one_of ns y ≡ true) × (value_in es y ≡ None)
