-- Two lines that belong together, at a position of a sheet and as many as there are. Definitions only.
use Rattle.std.specs.Prelude.{ℕ, List, [], ◌∷◌, ◌++◌}
use Rattle.std.specs.Prelude.{Option, Some, None}
use Rattle.rules.specs.Bytes.{Text}
use Rattle.rules.specs.Maybe.{◌>>=◌}
use Rattle.rules.specs.Lines.{after_key}
use Rattle.rules.specs.Sheet.{Entry, with_entry}
use Rattle.sheet.specs.Lines.{value_at}
use Rattle.sheet.specs.declared.Place.{Place}
use Rattle.sheet.specs.declared.Read.{Read}
use Rattle.sheet.specs.declared.Sides.{Sides}

abbrev pub sides_between : Place → Place → Sides
sides_between l r = record { left = l; right = r }

abbrev pub sides_of : Read Place → Read Place → Read Sides
sides_of l r = record { value = sides_between l.value r.value; next = r.next }

-- the values of two lines with these keys
unfoldable pub two_lines_at : Text → Text → Text → ℕ → Option (Read Sides)
two_lines_at first second s at = do
  l ← value_at s first at
  r ← value_at s second l.next.at
  Some (sides_of l r)

-- pairs of lines with these keys, as many as there are, and the lines after them
unfoldable pub entries_by : Text → Text → List Text → Option (List Entry × List Text)
unfolding after_key
entries_by first second [] = Some ([], [])
entries_by first second (l ∷ []) = elim (after_key first l) [ None ↦ Some ([], l ∷ []) | Some v ↦ None ]
entries_by first second (l ∷ r ∷ ls) =
    elim (after_key first l) [
      | None ↦ Some ([], l ∷ r ∷ ls)
      | Some v ↦ after_key second r >>= λ w. with_entry (v, w) (entries_by first second ls)
    ]

-- entries in front of those read later
abbrev pub entries_before : List Entry → List Entry × List Text → Option (List Entry × List Text)
entries_before es (fs, ls) = Some (es ++ fs, ls)
