-- The names of a tree that is read of a sheet are no longer than the sheet.
use Prim.Native.Nat.{◌≤◌}
use mathlib.Core.Path.{◌≡◌}
use Rattle.std.specs.Prelude.{Some}
use lib.ListN.{length}
use native.Mathlib.Omega.{arith}
use Rattle.rules.specs.Bytes.{Text}
use Rattle.rules.specs.Tree.{Tree, variable_names}
use Rattle.rules.specs.Reading.{parse}
use Rattle.laws.specs.Parts.{PartOf}
use Rattle.laws.proofs.Reading.Spelled.{part_length, names_listed, part_spelled}
use Rattle.laws.proofs.Variants.Targets.{all_at}
use Rattle.variables.specs.Variables.{Short}

pub short_read : (s x : Text) (t : Tree) → length s ≤ 65536 → PartOf s x → parse x ≡ Some t → Short (variable_names t)
short_read s x t l p e y m = omega (arith, part_length s y (all_at (PartOf s) (variable_names t) y m (names_listed (PartOf s) (PartOf s) t (part_spelled s x t p e))))
