-- Texts in byte order, each once: what inserting all of them makes, and what dropping repeats makes of a sorted list. Definitions only.
use Rattle.std.specs.Prelude.{cond, List, [], ◌∷◌}
use Rattle.rules.specs.Bytes.{Text, same}
use Rattle.rules.specs.Cover.{insert_once}

-- all texts inserted into a list
unfoldable pub inserted : List Text → List Text → List Text
unfolding insert_once
inserted [] found = found
inserted (x ∷ xs) found = insert_once x (inserted xs found)

abbrev pub ordered_once : List Text → List Text
ordered_once xs = inserted xs []

-- a text that stands before itself is dropped
unfoldable pub unique : List Text → List Text
unfolding same
unique [] = []
unique (x ∷ []) = x ∷ []
unique (x ∷ y ∷ l) = cond (same x y) (unique (y ∷ l)) (x ∷ unique (y ∷ l))
