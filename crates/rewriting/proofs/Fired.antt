-- A key is smaller than its cipher.
use Prim.Native.Nat.{◌+◌, ◌<◌, ◌≤◌}
use mathlib.Core.Path.{◌≡◌, ap}
use Rattle.std.specs.Prelude.{Some}
use Rattle.laws.proofs.Basics.Somes.{none_ne_some, some_injective}
use native.Mathlib.Omega.{arith}
use Rattle.rules.specs.Bytes.{Text}
use Rattle.rules.specs.Tree.{Tree, Trees, none, more, size, sizes}
use Rattle.rules.specs.Reduction.{arguments1, arguments2, arguments_of, is_one, is_two}
use Rattle.laws.proofs.Basics.Options.{bound}
use Rattle.laws.proofs.Reduction.Shapes.{named}

pub two_less : (f : Text) (t : Tree) (p : Tree × Tree) → is_two f t ≡ Some p → size p.1 < size t
unfolding is_two size
two_less f t p e =
    let (ts, g, h) = bound (arguments_of f t) arguments2 p e in
    let k = go ts h in
    rw (named f t ts g) (omega arith)
  where
    go : (ts : Trees) → arguments2 ts ≡ Some p → size p.1 < 1 + sizes ts
    go none h = absurd (none_ne_some p h)
    go (more a none) h = absurd (none_ne_some p h)
    go (more a (more b none)) h = let e : size b ≡ size p.1 = ap (λ (q : Tree × Tree). size q.1) (some_injective (a, b) p h) in omega arith
    go (more a (more b (more c ts))) h = absurd (none_ne_some p h)

pub one_less : (f : Text) (t u : Tree) → is_one f t ≡ Some u → size u < size t
unfolding is_one size
one_less f t u e =
    let (ts, g, h) = bound (arguments_of f t) arguments1 u e in
    let k = go ts h in
    rw (named f t ts g) (omega arith)
  where
    go : (ts : Trees) → arguments1 ts ≡ Some u → size u < 1 + sizes ts
    go none h = absurd (none_ne_some u h)
    go (more a none) h = let e : size a ≡ size u = ap size (some_injective a u h) in omega arith
    go (more a (more b ts)) h = absurd (none_ne_some u h)

-- a key that is smaller than the first of two children, and the second, together have no more nodes than the two
pub keys_fit : (ts : Trees) {t o : Tree} (k : Tree) → arguments2 ts ≡ Some (t, o) → size k < size t → size k + size o ≤ sizes ts
unfolding size
keys_fit none {t} {o} k h less = absurd (none_ne_some (t, o) h)
keys_fit (more x none) {t} {o} k h less = absurd (none_ne_some (t, o) h)
keys_fit (more x (more y none)) {t} {o} k h less =
    let g = some_injective (x, y) (t, o) h in
    let e₁ : size x ≡ size t = ap (λ (q : Tree × Tree). size q.0) g in
    let e₂ : size y ≡ size o = ap (λ (q : Tree × Tree). size q.1) g in
    omega arith
keys_fit (more x (more y (more z us))) {t} {o} k h less = absurd (none_ne_some (t, o) h)
