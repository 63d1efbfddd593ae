-- Sums as bags: trees are Ac equal exactly where the canonical texts of their summands occur equally often.
--
use mathlib.Core.Path.{◌≡◌, refl, ◌∙◌, ap}
use mathlib.Core.Bool.{Bool, true, false}
use mathlib.Core.List.Permᴰ
use mathlib.Core.List.{List, [], ◌∷◌, ◌++◌, map, Permᴰ}
use Prim.Native.Nat.{ℕ, ◌+◌, ◌<◌}
use native.Mathlib.Omega.{arith}
use Rattle.rules.specs.Bytes.{Text, same}
use Rattle.rules.specs.Tree.{Tree, plus}
use Rattle.rules.specs.Writing.{render}
use Rattle.rules.specs.Sums.{Canonical, parts, canon}
use Rattle.rules.specs.Equality.{Ac}
use Rattle.rules.specs.Tidy.{Built}
use Rattle.laws.proofs.Basics.Tests.{same_eq, same_self}
use Rattle.laws.proofs.Basics.Sorting.{perm_total}
use Rattle.laws.proofs.Basics.Order.{sort_same, sort_perm}
use Rattle.laws.proofs.Equality.Sound.{sound, canon_plus}
use Rattle.laws.proofs.Equality.Rebuilding.{filled}
use Rattle.laws.proofs.Equality.Canonical.{parts_norm, by_parts}

abbrev one_if : Bool → ℕ
one_if true = 1
one_if false = 0

-- how often the text stands in the list
tally : Text → List Text → ℕ
tally w [] = 0
tally w (x ∷ l) = one_if (same w x) + tally w l

tally_append : (w : Text) (l m : List Text) → tally w (l ++ m) ≡ tally w l + tally w m
unfolding tally
tally_append w [] m = omega arith
tally_append w (x ∷ l) m = let h = tally_append w l m in omega arith

tally_perm : (w : Text) {l m : List Text} → Permᴰ l m → tally w l ≡ tally w m
unfolding tally
tally_perm w = perm_total (tally w) (λ x. one_if (same w x)) (λ x l. refl)

tally_first : (w : Text) (l : List Text) → 0 < tally w (w ∷ l)
unfolding tally
tally_first w l = let k = ap one_if (same_self w) in omega arith

-- a text that stands in the list may stand in front
in_front : (w : Text) (l : List Text) → 0 < tally w l → (m : List Text) × Permᴰ (w ∷ m) l
unfolding tally
in_front w [] h = absurd (omega arith)
in_front w (x ∷ l) h = go (same w x) refl h (in_front w l)
  where
    go : (b : Bool) → same w x ≡ b → 0 < one_if b + tally w l → (0 < tally w l → (m : List Text) × Permᴰ (w ∷ m) l)
        → (m : List Text) × Permᴰ (w ∷ m) (x ∷ l)
    go true e k f = (l, Permᴰ.cons (same_eq w x e) (Permᴰ.refl l))
    go false e k f = let r = f (omega arith) in (x ∷ r.0, Permᴰ.trans (Permᴰ.swap refl refl) (Permᴰ.cons refl r.1))

-- equal tallies are one list in another order
tally_same : (l m : List Text) → ((w : Text) → tally w l ≡ tally w m) → Permᴰ l m
unfolding tally
tally_same [] [] h = Permᴰ.nil
tally_same [] (x ∷ m) h = absurd (let k = h x in let p = tally_first x m in omega arith)
tally_same (x ∷ l) m h =
    let f = in_front x m (let k = h x in let p = tally_first x l in omega arith) in
    Permᴰ.trans (Permᴰ.cons refl (tally_same l f.0 (λ w. let k = h w in let q = tally_perm w f.1 in omega arith))) f.1

-- how many summands of the tree have the canonical text
pub weight : Text → Tree → ℕ
weight w t = tally w (parts (canon t))

pub weight_kept : (w : Text) {t u : Tree} → Ac t u → weight w t ≡ weight w u
unfolding weight
weight_kept w h = ap (λ (c : Canonical). tally w (parts c)) (sound h)

pub weight_plus : (w : Text) (a b : Tree) → weight w (plus a b) ≡ weight w a + weight w b
unfolding weight parts
weight_plus w a b =
    ap (λ (c : Canonical). tally w (parts c)) (canon_plus a b)
    ∙ tally_perm w (sort_perm (parts (canon a) ++ parts (canon b)))
    ∙ tally_append w (parts (canon a)) (parts (canon b))

pub weight_ac : {t u : Tree} → Built t → Built u → ((w : Text) → weight w t ≡ weight w u) → Ac t u
unfolding weight
weight_ac {t} {u} p q h = by_parts p q (sort_same (tally_same (parts (canon t)) (parts (canon u)) h))

-- a tree has a summand
pub weight_some : {t : Tree} → Built t → (w : Text) × (0 < weight w t)
unfolding weight
weight_some {t} p =
    let f = filled p in
    let e : parts (canon t) ≡ render f.0 ∷ map render f.1 = parts_norm t ∙ ap (map render) f.2 in
    (render f.0, rw e (tally_first (render f.0) (map render f.1)))
