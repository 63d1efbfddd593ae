-- What steps of unify and moves of match leave is fit where what was there was: built as by reading, and of at most 4,096 nodes.
use mathlib.Core.Path.{◌≡◌, sym, subst}
use mathlib.Core.Bool.{Bool, true, false}
use mathlib.Core.List.{List, [], ◌∷◌}
use Rattle.std.specs.Prelude.{Some}
use Rattle.laws.proofs.Basics.Somes.{none_ne_some, some_injective}
use Prim.Native.Nat.{◌≤◌}
use native.Mathlib.Omega.{arith}
use Rattle.rules.specs.Bytes.{Text, same}
use Rattle.rules.specs.Tree.{Tree, variable, atom, apply, Trees, none, more, children, size, sizes}
use Rattle.rules.specs.Substitution.{Binding, Pair, instantiate_pairs, size_pairs}
use Rattle.rules.specs.Solving.{Step, goes_on, bind, fails, unknown, Rest, emptied, mismatch, stuck, equation, cancel_sums, step}
use Rattle.rules.specs.Matching.{Move, onward, clash, beyond, bound, or_else, move}
use Rattle.rules.specs.Tidy.{Built, Builts, both}
use Rattle.rules.specs.Reading.{parse}
use Rattle.rules.specs.Sheet.{Entry}
use Rattle.rules.specs.Answer.{read_pairs}
use Rattle.laws.proofs.Equality.Building.{built_children}
use Rattle.laws.proofs.Solving.Keeping.{AllIn, Sides, KeptSides, KeptRest, sums_keep, KeptStep, step_sides, Extends, unchanged, added, KeptMove, move_sides}
use Rattle.laws.proofs.Sheets.BuiltRun.{BuiltPairs, BuiltBindings, built_kept, name_token, instance_built}
use Rattle.laws.proofs.Sheets.BuiltMatch.{Upto, sums_small}
use Rattle.laws.proofs.Sheets.NamesRead.{pairs_read_by}
use Rattle.laws.proofs.Promises.{parse_builds}
use Rattle.elimination.specs.Stack.{Fit, FitPairs, FitBindings}

-- Sums

sums_fit : (b : Bool) (test : Tree → Tree → Bool) (l r : Tree) → Fit l → Fit r → KeptRest Fit Fit (cancel_sums b test l r)
sums_fit b test l r p q = go (cancel_sums b test l r) (sums_keep Built Built built_kept built_kept b test l r p.built q.built) (sums_small b test l r p.built q.built)
  where
    go : (w : Rest) → KeptRest Built Built w → KeptRest (Upto (size l)) (Upto (size r)) w → KeptRest Fit Fit w
    go emptied m k = tt
    go mismatch m k = tt
    go stuck m k = tt
    go (equation a b) m k =
        let i = p.small in
        let j = q.small in
        let x = k.0 in
        let y = k.1 in
        (record { built = m.0; small = omega arith }, record { built = m.1; small = omega arith })

-- Children

builts_fit : (ts : Trees) → Builts ts → sizes ts ≤ 4096 → AllIn Fit ts
unfolding size
builts_fit none b h = tt
builts_fit (more t ts) (both b bs) h = (record { built = b; small = omega arith }, builts_fit ts bs (omega arith))

children_fit : (t : Tree) → Fit t → AllIn Fit (children t)
unfolding children size
children_fit (variable x) h = tt
children_fit (atom c d) h = tt
children_fit (apply f ts) h = let i = h.small in builts_fit ts (built_children h.built) (omega arith)

fit_kept : KeptSides Fit Fit
fit_kept = record { lefts = children_fit; rights = children_fit; rests = sums_fit }

pairs_sides : (ps : List Pair) → FitPairs ps → Sides Fit Fit ps
pairs_sides [] h = tt
pairs_sides (p ∷ ps) h = (h.0, h.1, pairs_sides ps h.2)

sides_pairs : (ps : List Pair) → Sides Fit Fit ps → FitPairs ps
sides_pairs [] h = tt
sides_pairs (p ∷ ps) h = (h.0, h.1, sides_pairs ps h.2)

-- One step of unify

abbrev pub FitStep : Step → Type 0
FitStep (goes_on qs) = FitPairs qs
FitStep (bind x v qs) = FitPairs qs
FitStep fails = Unit {0}
FitStep unknown = Unit {0}

-- the pairs after a binding: within the limit in all, so each of them
bound_fit : (x : Text) (v : Tree) → Built (variable x) → Built v → (ps : List Pair) → FitPairs ps → size_pairs (instantiate_pairs ((x, v) ∷ []) ps) ≤ 4096
    → FitPairs (instantiate_pairs ((x, v) ∷ []) ps)
unfolding instantiate_pairs size_pairs
bound_fit x v k b [] h l = tt
bound_fit x v k b (p ∷ ps) h l =
    let c : BuiltBindings ((x, v) ∷ []) = (name_token k, b, tt) in (
      record { built = instance_built ((x, v) ∷ []) c h.0.built; small = omega arith },
      record { built = instance_built ((x, v) ∷ []) c h.1.built; small = omega arith },
      bound_fit x v k b ps h.2 (omega arith),
    )

pub step_fit : (l r : Tree) (ps : List Pair) → Fit l → Fit r → FitPairs ps → FitStep (step l r ps)
step_fit l r ps p q h = go (step l r ps) (step_sides Fit fit_kept ps (pairs_sides ps h) l r p q)
  where
    go : (d : Step) → KeptStep Fit ps d → FitStep d
    go (goes_on qs) k = sides_pairs qs k.0
    go (bind x v qs) k =
        subst FitPairs (sym k.put) (bound_fit x v k.key.built k.value.built ps h (subst (λ (rs : List Pair). size_pairs rs ≤ 4096) k.put k.limit))
    go fails k = tt
    go unknown k = tt

-- One move of match

abbrev pub FitMove : Move → Type 0
FitMove (onward qs cs) = FitPairs qs × FitBindings cs
FitMove clash = Unit {0}
FitMove beyond = Unit {0}

-- the value of a variable that is bound
pub bound_value : (x : Text) (bs : List Binding) (v : Tree) → FitBindings bs → bound x bs ≡ Some v → Fit v
unfolding bound
bound_value x [] v h e = absurd (none_ne_some v e)
bound_value x (b ∷ bs) v h e = go (same b.0 x) (λ f. bound_value x bs v h.1 f) e
  where
    go : (c : Bool) → (bound x bs ≡ Some v → Fit v) → or_else c b.1 (bound x bs) ≡ Some v → Fit v
    go true r f = subst Fit (some_injective b.1 v f) h.0
    go false r f = r f

extends_fit : {bs cs : List Binding} → Extends Fit Fit bs cs → FitBindings bs → FitBindings cs
extends_fit unchanged h = h
extends_fit (added k v n) h = (v, h)

pub move_fit : (t u : Tree) (ps : List Pair) (bs : List Binding) → Fit t → Fit u → FitPairs ps → FitBindings bs → FitMove (move t u ps bs)
move_fit t u ps bs p q h k = go (move t u ps bs) (move_sides Fit Fit fit_kept ps (pairs_sides ps h) bs t u p q)
  where
    go : (m : Move) → KeptMove Fit Fit bs m → FitMove m
    go (onward qs cs) m = (sides_pairs qs m.0, extends_fit m.1 k)
    go clash m = tt
    go beyond m = tt

-- What reading gives

fit_of : (s : Text) (t : Tree) → parse s ≡ Some t → Fit t
fit_of s t e = let h = parse_builds s t e in record { built = h.0; small = h.1 }

pub pairs_fit : (es : List Entry) (ps : List Pair) → read_pairs es ≡ Some ps → FitPairs ps
pairs_fit = pairs_read_by (λ es ps. FitPairs ps) tt (λ e es p ps l r h. (fit_of e.0 p.0 l, fit_of e.1 p.1 r, h))

-- pairs that are built, with sides of at most 4,096 nodes
pub fit_sides : (qs : List Pair) → BuiltPairs qs → Sides (Upto 4096) (Upto 4096) qs → FitPairs qs
fit_sides [] b h = tt
fit_sides (q ∷ qs) b h = (record { built = b.0; small = h.0 }, record { built = b.1; small = h.1 }, fit_sides qs b.2 h.2)
