-- The numbers that cells hold for kinds. Definitions only.
use Rattle.std.specs.Prelude.{ℕ, ◌-◌, cond, [], ◌∷◌, eqb, ltb, get_or, Option, Some, None}
use Rattle.rules.specs.declared.Sort.{Sort}
use Rattle.rules.specs.declared.Sort.TheVariants.{Pub, Fresh, Msg, TamNat, Node}
use Rattle.tree.specs.declared.kinds.Kind.{Kind}
use Rattle.tree.specs.declared.kinds.Kind.TheVariants.{Application, Variable, Atom}
use Rattle.tree.specs.Cells.{kind_of_sort}

-- the sort that a number from 1 to 5 stands for
abbrev pub coded_sort : ℕ → Option Sort
coded_sort n = get_or (Some Pub ∷ Some Fresh ∷ Some Msg ∷ Some TamNat ∷ Some Node ∷ []) (n - 1) None

-- the kind that a number stands for
abbrev pub coded_kind : ℕ → Kind
coded_kind n = cond (eqb n 0) Application (cond (ltb n 7) (Variable (coded_sort n)) (Atom n))

abbrev pub kind_number : Kind → ℕ
kind_number Application = 0
kind_number (Variable s) = kind_of_sort s
kind_number (Atom c) = c

-- the letter of an atom
abbrev pub letter_of : Kind → Option ℕ
letter_of Application = None
letter_of (Variable s) = None
letter_of (Atom c) = Some c
