-- Parts of lists: two lists that agree, a part and the part after it, what is left of a front.
use Prim.Native.Nat.{ℕ, ◌+◌, ◌<◌, ◌≤◌, zero, suc, ◌-◌}
use mathlib.Core.Path.{◌≡◌, sym, ap, ◌∙◌}
use mathlib.Core.List.{List, [], ◌∷◌, ◌++◌}
use lib.ListN.{length, get_or, take, drop, length-take, drop_of_length-le}
use lib.Seq.{slice, length-slice, get_or-take, get_or-drop, ext_get_or, drop-append-le, take-take, length-take-le, take-nil}
use native.Mathlib.Omega.{arith}

-- two lists that agree from f to t
pub slice_same : (f t : ℕ) (v w : List ℕ) → t ≤ length v → t ≤ length w → ((p : ℕ) → f ≤ p → p < t → get_or v p 0 ≡ get_or w p 0) → slice f t v ≡ slice f t w
slice_same f t v w a b h =
    ext_get_or 0 (slice f t v) (slice f t w) (length-slice f t v a ∙ sym (length-slice f t w b))
    (λ i l. (
    let k : f + i < t = omega (arith, length-slice f t v a) in
    get_or-drop f (take t v) i 0 ∙ get_or-take t v (f + i) 0 k ∙ h (f + i) (omega arith) k ∙ sym (get_or-drop f (take t w) i 0 ∙ get_or-take t w (f + i) 0 k)))

-- a part and the part after it
pub slice_join : (f m t : ℕ) (w : List ℕ) → f ≤ m → m ≤ t → t ≤ length w → slice f m w ++ slice m t w ≡ slice f t w
slice_join f m t w p q r =
    let e : take m w ++ slice m t w ≡ take t w = ap (λ (l : List ℕ). l ++ slice m t w) (sym (take-take m t w q)) ∙ lib.ListN.take-append-drop m (take t w) in
    let k : length (take m w) ≡ m = length-take-le m w (omega arith) in
    sym (drop-append-le f (take m w) (slice m t w) (omega arith)) ∙ ap (drop f) e

-- no part
pub slice_none : (f t : ℕ) (w : List ℕ) → t ≤ f → slice f t w ≡ []
slice_none f t w p = drop_of_length-le (take t w) {i = f} (let k = length-take t w in omega arith)

pub drop_take : (n m : ℕ) (l : List ℕ) → drop n (take m l) ≡ take (m - n) (drop n l)
drop_take zero m l = let e : m ≡ m - 0 = omega arith in ap (λ (i : ℕ). take i l) e
drop_take (suc n) zero l = let e : 0 - suc n ≡ 0 = omega arith in sym (ap (λ (i : ℕ). take i (drop (suc n) l)) e)
drop_take (suc n) (suc m) [] = sym (take-nil (suc m - suc n))
drop_take (suc n) (suc m) (x ∷ l) = let e : m - n ≡ suc m - suc n = omega arith in drop_take n m l ∙ ap (λ (i : ℕ). take i (drop n l)) e
