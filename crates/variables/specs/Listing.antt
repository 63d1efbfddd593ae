-- Variables as a list of cells, the last first. Definitions only.
use Rattle.std.specs.Prelude.{List, [], ◌∷◌}
use Rattle.rules.specs.Bytes.{Text}
use Rattle.rules.specs.Tree.{variable, Trees, none, more}

unfoldable pub variable_list : List Text → Trees
variable_list [] = none
variable_list (x ∷ xs) = more (variable x) (variable_list xs)

-- texts, the last first, before others
unfoldable pub backwards : List Text → List Text → List Text
backwards [] l = l
backwards (x ∷ xs) l = backwards xs (x ∷ l)
