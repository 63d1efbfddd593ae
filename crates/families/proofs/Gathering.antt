-- Members read into cells, one before the other: one member as a tree, and the walk over all of them.
use Prim.Native.Nat.{ℕ}
use mathlib.Core.Path.{◌≡◌, refl, ap}
use mathlib.Core.List.{List, [], ◌∷◌, map, reverse_aux}
use Rattle.std.specs.Prelude.{Option, Some, None}
use Rattle.rules.specs.Bytes.{Text}
use Rattle.rules.specs.Maybe.{◌>>=◌, every}
use Rattle.rules.specs.Tree.{size, sizes}
use Rattle.rules.specs.Sheet.{Member}
use Rattle.rules.specs.Variants.{Variant, read_member}
use Rattle.tree.specs.Cells.{trees_at}
use Rattle.tree.proofs.Decoding.{trees_none}

-- ---- one member as a tree

-- ---- the members before a position, the last first, and those from there on

abbrev pub read_all : List Member → Option (List Variant)
read_all ms = every (map read_member ms)

abbrev pub after : List Variant → Option (List Variant) → Option (List Variant)
after vs o = o >>= λ us. Some (reverse_aux vs us)

pub after_more : (v : Variant) (vs : List Variant) (o : Option (List Variant)) → after vs (o >>= λ us. Some (v ∷ us)) ≡ after (v ∷ vs) o
after_more v vs None = refl
after_more v vs (Some us) = refl

pub read_first : (m : Member) (ms : List Member) (o : Option Variant) → read_member m ≡ o → read_all (m ∷ ms) ≡ (o >>= λ v. read_all ms >>= λ us. Some (v ∷ us))
unfolding every
read_first m ms o e = ap (λ (o : Option Variant). o >>= λ v. read_all ms >>= λ us. Some (v ∷ us)) e

pub self : (o : Option (List Variant)) → o ≡ after [] o
self None = refl
self (Some us) = refl

pub no_sizes : (s : Text) (w : List ℕ) → sizes (trees_at s w 0) ≡ 0
unfolding size
no_sizes s w = ap sizes (trees_none s w 0 refl)
