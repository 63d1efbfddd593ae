-- The runs of match keep trees as reading builds them, and what they bind is no larger than what was read.
use mathlib.Core.Path.{◌≡◌}
use mathlib.Core.Bool.{Bool, true, false, true≢false}
use mathlib.Core.List.{List, [], ◌∷◌, ◌++◌}
use Rattle.std.specs.Prelude.{Option, Some, None}
use Prim.Native.Nat.{ℕ, zero, suc, ◌+◌, ◌≤◌}
use native.Mathlib.Omega.{arith}
use Rattle.rules.specs.Bytes.{same}
use Rattle.rules.specs.Tree.{Tree, variable, atom, apply, Trees, none, more, children, size, sizes, tamtplus}
use Rattle.rules.specs.Substitution.{Binding, Pair}
use Rattle.rules.specs.Sums.{summands, summands_of, unless_sum, rebuild}
use Rattle.rules.specs.Solving.{Answer, Rest, emptied, mismatch, stuck, equation, keep, remove_at, remove, cancel_at, cancel, remainder, cancel_sums}
use Rattle.rules.specs.Matching.{Move, onward, clash, beyond, move, moved, matching, matcher}
use Rattle.rules.specs.Tidy.{Built, a_variable, an_atom, a_leaf, a_list, a_sum, Builts, both}
use Rattle.laws.proofs.Basics.Tests.{true_leb}
use Rattle.laws.proofs.Equality.Building.{built_children}
use Rattle.laws.proofs.Solving.Keeping.{AllIn, Sides, KeptSides, KeptRest, sums_keep, children_keep, Extends, unchanged, added, KeptMove, move_sides}
use Rattle.laws.proofs.Sheets.BuiltRun.{BuiltPairs, SmallPairs, BuiltBindings, built_kept, name_token, Within, Writable}

-- Sizes of sums: each summand counts one node more than it has

abbrev pub mass : List Tree → ℕ
mass [] = 0
mass (t ∷ ts) = suc (size t) + mass ts

append_mass : (ts us : List Tree) → mass (ts ++ us) ≡ mass ts + mass us
append_mass [] us = omega arith
append_mass (t ∷ ts) us = let h = append_mass ts us in omega arith

pub summands_mass : {t : Tree} → Built t → mass (summands t) ≤ suc (size t)
unfolding summands size same
summands_mass (a_variable v) = omega arith
summands_mass (an_atom l n) = omega arith
summands_mass (a_leaf {f} w) = go (same f tamtplus)
  where
    go : (c : Bool) → mass (unless_sum c [] (apply f none)) ≤ suc (size (apply f none))
    go true = omega arith
    go false = omega arith
summands_mass (a_list {f} {t} {ts} w l q b bs) = go (same f tamtplus) q (summands_of (more t ts))
  where
    go : (c : Bool) → c ≡ false → (us : List Tree) → mass (unless_sum c us (apply f (more t ts))) ≤ suc (size (apply f (more t ts)))
    go true e us = absurd (true≢false e)
    go false e us = omega arith
summands_mass (a_sum {a} {b} p q) =
    let h = summands_mass p in
    let k = summands_mass q in
    let i = append_mass (summands a) (summands b ++ []) in
    let j = append_mass (summands b) [] in
    omega arith

pub rebuild_mass : (t : Tree) (ts : List Tree) → suc (size (rebuild t ts)) ≡ suc (size t) + mass ts
unfolding rebuild size
rebuild_mass t [] = omega arith
rebuild_mass t (u ∷ us) = let h = rebuild_mass u us in omega arith

abbrev MaybeMass : ℕ → Option (List Tree) → Type 0
MaybeMass n None = Unit {0}
MaybeMass n (Some ts) = mass ts ≤ n

remove_mass : (test : Tree → Tree → Bool) (t : Tree) (us : List Tree) → MaybeMass (mass us) (remove test t us)
unfolding remove
remove_mass test t [] = tt
remove_mass test t (u ∷ us) = go (test t u) (remove test t us) (remove_mass test t us)
  where
    kept : (o : Option (List Tree)) → MaybeMass (mass us) o → MaybeMass (mass (u ∷ us)) (keep u o)
    kept None m = tt
    kept (Some vs) m = omega arith

    go : (c : Bool) (o : Option (List Tree)) → MaybeMass (mass us) o → MaybeMass (mass (u ∷ us)) (remove_at c u us o)
    go true o m = omega arith
    go false o m = kept o m

pub cancel_mass : (test : Tree → Tree → Bool) (ts us : List Tree) → mass (cancel test ts us).1 ≤ mass us
unfolding cancel
cancel_mass test [] us = omega arith
cancel_mass test (t ∷ ts) us = go (remove test t us) (remove_mass test t us) (λ vs. cancel_mass test ts vs)
  where
    go : (o : Option (List Tree)) → MaybeMass (mass us) o → ((vs : List Tree) → mass (cancel test ts vs).1 ≤ mass vs)
        → mass (cancel_at o t (λ vs. cancel test ts vs) us).1 ≤ mass us
    go None m r = r us
    go (Some vs) m r = let h = r vs in omega arith

-- cancelling leaves no more on the left either
pub cancel_mass_left : (test : Tree → Tree → Bool) (ts us : List Tree) → mass (cancel test ts us).0 ≤ mass ts
unfolding cancel
cancel_mass_left test [] us = omega arith
cancel_mass_left test (t ∷ ts) us = go (remove test t us) (λ vs. cancel_mass_left test ts vs)
  where
    go : (o : Option (List Tree)) → ((vs : List Tree) → mass (cancel test ts vs).0 ≤ mass ts) → mass (cancel_at o t (λ vs. cancel test ts vs) us).0 ≤ mass (t ∷ ts)
    go None r = let h = r us in omega arith
    go (Some vs) r = let h = r vs in omega arith

-- what two sums leave is no larger than they
abbrev pub Upto : ℕ → Tree → Type 0
Upto n t = size t ≤ n

remainder_small : (b : Bool) (m n : ℕ) (ks os : List Tree) → mass ks ≤ suc m → mass os ≤ suc n → KeptRest (Upto m) (Upto n) (remainder b ks os)
remainder_small b m n [] [] h k = tt
remainder_small b m n [] (o ∷ os) h k = tt
remainder_small b m n (x ∷ ks) [] h k = tt
remainder_small b m n (x ∷ []) (o ∷ os) h k = (omega arith, omega (arith, rebuild_mass o os))
remainder_small true m n (x ∷ j ∷ ks) (o ∷ []) h k = (omega (arith, rebuild_mass x (j ∷ ks)), omega arith)
remainder_small false m n (x ∷ j ∷ ks) (o ∷ []) h k = tt
remainder_small true m n (x ∷ j ∷ ks) (o ∷ p ∷ os) h k = tt
remainder_small false m n (x ∷ j ∷ ks) (o ∷ p ∷ os) h k = tt

pub sums_small : (b : Bool) (test : Tree → Tree → Bool) (l r : Tree) → Built l → Built r → KeptRest (Upto (size l)) (Upto (size r)) (cancel_sums b test l r)
unfolding cancel_sums
sums_small b test l r p q =
    let h = cancel_mass_left test (summands l) (summands r) in
    let k = cancel_mass test (summands l) (summands r) in
    let i = summands_mass p in
    let j = summands_mass q in
    remainder_small b (size l) (size r) (cancel test (summands l) (summands r)).0 (cancel test (summands l) (summands r)).1 (omega arith) (omega arith)

-- One move: right sides are within the limit

abbrev Small : Tree → Type 0
Small t = Built t × Upto 4096 t

all_small : (ts : Trees) → Builts ts → sizes ts ≤ 4096 → AllIn Small ts
unfolding size
all_small none b h = tt
all_small (more t ts) (both b bs) h = ((b, omega arith), all_small ts bs (omega arith))

small_children : (t : Tree) → Small t → AllIn Small (children t)
unfolding children size
small_children (variable x) h = tt
small_children (atom c d) h = tt
small_children (apply f ts) h = let i = h.1 in all_small ts (built_children h.0) (omega arith)

built_small : KeptSides Built Small
built_small = record {
  lefts = children_keep Built built_kept;
  rights = small_children;
  rests = λ b test l r p q. rest (cancel_sums b test l r) (size l) (size r) q.1 (sums_keep Built Built built_kept built_kept b test l r p q.0) (sums_small b test l r p q.0);
}
  where
    rest : (w : Rest) (m n : ℕ) → n ≤ 4096 → KeptRest Built Built w → KeptRest (Upto m) (Upto n) w → KeptRest Built Small w
    rest emptied m n h k i = tt
    rest mismatch m n h k i = tt
    rest stuck m n h k i = tt
    rest (equation a b) m n h k i = let j = i.1 in (k.0, (k.1, omega arith))

-- The run

abbrev Values : List Binding → Type 0
Values bs = BuiltBindings bs × Within bs

values_kept : {bs cs : List Binding} → Extends Built Small bs cs → Values bs → Values cs
values_kept unchanged k = k
values_kept (added {u = u} v b n) k = ((name_token v, b.0, k.0), (true_leb (size u) 4096 b.1, k.1))

moved_writable : (bs : List Binding) (m : Move) (go : List Pair → List Binding → Answer) → Values bs → KeptMove Built Small bs m
    → ((qs : List Pair) (cs : List Binding) → Sides Built Small qs → Values cs → Writable (go qs cs).0) → Writable (moved m go).0
moved_writable bs (onward qs cs) go k m h = h qs cs m.0 (values_kept m.1 k)
moved_writable bs clash go k m h = tt
moved_writable bs beyond go k m h = tt

matching_writable : (n : ℕ) (ps : List Pair) (bs : List Binding) → Sides Built Small ps → Values bs → Writable (matching n ps bs).0
unfolding matching
matching_writable zero ps bs s k = tt
matching_writable (suc n) [] bs s k = k
matching_writable (suc n) (p ∷ ps) bs s k =
    moved_writable bs (move p.0 p.1 ps bs) (λ qs cs. matching n qs cs) k
    (move_sides Built Small built_small ps s.2 bs p.0 p.1 s.0 s.1) (λ qs cs t j. matching_writable n qs cs t j)

small_sides : (ps : List Pair) → BuiltPairs ps → SmallPairs ps → Sides Built Small ps
small_sides [] b s = tt
small_sides (p ∷ ps) b s = (b.0, (b.1, s.0), small_sides ps b.2 s.1)

pub matcher_writable : (n : ℕ) (ps : List Pair) → BuiltPairs ps → SmallPairs ps → Writable (matcher n ps).0
unfolding matcher
matcher_writable n ps b s = matching_writable n ps [] (small_sides ps b s) (tt, tt)
