-- Bytes written into an output, one after another.
use Prim.Native.Nat.{ℕ, ◌+◌, ◌<◌, ◌≤◌}
use borrow.Rule.Slice.PartMut.{put_mid}
use mathlib.Core.Path.{◌≡◌, sym, ap, ap₂, ◌∙◌}
use mathlib.Core.List.{List, [], ◌∷◌, ◌++◌, append_assoc}
use lib.ListN.{length, take, drop, set, length-append, length-take, length-drop, take-append-drop}
use lib.Seq.{take_at, drop-append-add, drop-drop, set_split}
use native.Mathlib.Nat.{add-zero}
use native.Mathlib.Numerals.{add-one}
use native.Mathlib.Omega.{arith}
use Rattle.rules.specs.Bytes.{Text}
use Rattle.text.specs.Printing.{printed_over, Printed}

pub written_none : (out : List ℕ) (at : ℕ) → printed_over out at [] ≡ out
unfolding printed_over
written_none out at = rw add-zero (take-append-drop at out)

pub length_written : (out : List ℕ) (at : ℕ) (bs : List ℕ) → at + length bs ≤ length out → length (printed_over out at bs) ≡ length out
unfolding printed_over
length_written out at bs h = simp (length-append, length-take, length-drop) (omega arith)

-- one byte
pub written_byte : (out : List ℕ) (at b : ℕ) → at < length out → set out at b ≡ printed_over out at (b ∷ [])
unfolding printed_over
written_byte out at b h = set_split out at b h ∙ rw add-one

-- one part after another
pub written_then : (out : List ℕ) (at : ℕ) (a b : List ℕ) → at + length a ≤ length out → printed_over (printed_over out at a) (at + length a) b ≡ printed_over out at (a ++ b)
unfolding printed_over
written_then out at a b h =
    let D = drop (at + length a) out in
    let P = take at out ++ a in
    let len : length P ≡ at + length a = simp (length-append, length-take) (omega arith) in
    let whole : take at out ++ (a ++ D) ≡ P ++ D = sym (append_assoc (take at out) a D) in
    let front : take (at + length a) (take at out ++ (a ++ D)) ≡ P = ap (take (at + length a)) whole ∙ take_at P D (at + length a) len in
    let sum : at + length a + length b ≡ at + length (a ++ b) = omega (arith, length-append a b) in
    let back : drop (at + length a + length b) (take at out ++ (a ++ D)) ≡ drop (at + length (a ++ b)) out =
    ap₂ (λ (n : ℕ) (l : List ℕ). drop (n + length b) l) (sym len) whole
    ∙ drop-append-add P D (length b)
    ∙ drop-drop (length b) (at + length a) out
    ∙ ap (λ (n : ℕ). drop n out) sum in
    ap₂ (λ (x y : List ℕ). x ++ (b ++ y)) front back
    ∙ append_assoc (take at out) a (b ++ drop (at + length (a ++ b)) out)
    ∙ ap (λ (x : List ℕ). take at out ++ x) (sym (append_assoc a b (drop (at + length (a ++ b)) out)))

-- a part printed after another
pub printed_then : {out v u : List ℕ} {at r q : ℕ} {a b : List ℕ} → at + length a ≤ length out → Printed out v at a r → Printed v u r b q → Printed out u at (a ++ b) q
printed_then {out} {v} {u} {at} {r} {q} {a} {b} h x y = record {
  bytes = y.bytes ∙ ap₂ (λ (l : List ℕ) (n : ℕ). printed_over l n b) x.bytes x.end ∙ written_then out at a b h;
  end = omega (arith, y.end, x.end, length-append a b);
}

-- a text put back into a part of an output
pub put_part : (out : Text) {v t : Text} (at : ℕ) {k : ℕ} → k ≡ length t → v ≡ t → put_mid at k out v ≡ printed_over out at t
unfolding printed_over
put_part out {t = t} at {k} l f = rw (f, l) (ap (λ (z : Text). take at out ++ (t ++ z)) (drop-drop (length t) at out))
