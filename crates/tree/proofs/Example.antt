-- A small area, decoded and written: cell 1 is `x0:Msg`, cell 2 `c(7)` before it, cell 3 `tamXCpair` over both, in the sheet `x0:Msg7`.
use Prim.Native.Nat.{ℕ}
use mathlib.Core.Path.{◌≡◌, refl}
use mathlib.Core.List.{List, [], ◌∷◌}
use Rattle.rules.specs.Bytes.{Text}
use Rattle.rules.specs.Text.{bytes}
use Rattle.rules.specs.Tree.{variable, atom}
use Rattle.rules.specs.Reduction.{pair}
use Rattle.rules.specs.Writing.{commas, listed, render}
use Rattle.tree.specs.Cells.{start_of, length_of, kind_of, named, name_at, made, forest, trees_at, tree_at}

sheet : Text
sheet = bytes "x0:Msg7"

area : List ℕ
area = 0 ∷ 0 ∷ 0 ∷ 0 ∷ 6 ∷ 196609 ∷ 0 ∷ 0 ∷ 393217 ∷ 6488065 ∷ 0 ∷ 1 ∷ 196608 ∷ 3 ∷ 2 ∷ 0 ∷ []

decoded : tree_at sheet area 3 ≡ pair (atom 99 (bytes "7")) (variable (bytes "x0:Msg"))
unfolding tree_at trees_at forest made named name_at start_of length_of kind_of sheet area
decoded = refl

rendered : render (tree_at sheet area 3) ≡ bytes "tamXCpair(c(7),x0:Msg)"
unfolding tree_at trees_at forest made named name_at start_of length_of kind_of sheet area render listed commas
rendered = refl
