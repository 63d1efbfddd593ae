-- Names of cells. Definitions only.
use Rattle.std.specs.Prelude.{ℕ, zero, suc, [], ◌∷◌, get_or, Option, Some, None}
use Rattle.rules.specs.Bytes.{Text}
use Rattle.laws.specs.Unspelled.{unspelled}
use Rattle.tree.specs.Cells.{fixed_name}
use Rattle.tree.specs.declared.fixed.Fixed.{Fixed}
use Rattle.tree.specs.declared.fixed.Fixed.TheVariants.{RoleA, RoleB, Pair, Senc, Kem, Pk}
use Rattle.tree.specs.declared.names.Name.{Name}
use Rattle.tree.specs.declared.names.Name.TheVariants as name

-- the code of a name in a cell
abbrev pub fixed_code : Fixed → ℕ
fixed_code RoleA = 1
fixed_code RoleB = 2
fixed_code Pair = 3
fixed_code Senc = 4
fixed_code Kem = 5
fixed_code Pk = 6

abbrev pub fixed_text : Fixed → Text
fixed_text f = fixed_name (fixed_code f)

-- the fixed name of a code
abbrev pub coded_fixed : ℕ → Option Fixed
coded_fixed zero = None
coded_fixed (suc c) = get_or (Some RoleA ∷ Some RoleB ∷ Some Pair ∷ Some Senc ∷ Some Kem ∷ Some Pk ∷ []) c None

abbrev pub name_text : Name → Text
name_text (name.Spelled t) = t.now
name_text (name.Fixed f) = fixed_text f
name_text (name.Unspelled n) = unspelled n
