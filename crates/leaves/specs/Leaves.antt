-- What a leaf is, by its name. Definitions only.
use Rattle.std.specs.Prelude.{ℕ, cond, [], ◌∷◌, eqb}
use Rattle.std.specs.Prelude.{Option, Some, None, position, get_or}
use Rattle.rules.specs.Bytes.{Text}
use Rattle.rules.specs.declared.Sort.{Sort}
use Rattle.rules.specs.Names.{letter_name}
use Rattle.rules.specs.Sorts.{sort_named}

-- the letter of atoms that a name is
abbrev pub name_letter : Text → Option ℕ
name_letter n = cond (letter_name n) (Some (get_or n 0 0)) None

-- where the first colon stands
abbrev pub colon_in : Text → Option ℕ
colon_in n = position (λ (b : ℕ). eqb b 58) n

-- nothing for a name without a colon, else the sort of a variable
unfoldable pub leaf_sort : Text → Option (Option Sort)
leaf_sort [] = None
leaf_sort (b ∷ n) = cond (eqb b 58) (Some (sort_named n)) (leaf_sort n)
