-- The columns of a page's line written into an output.
use Prim.Native.Nat.{ℕ, zero, suc, ◌+◌, ◌-◌, ◌*◌, ◌/◌, ◌%◌, ◌<◌, ◌≤◌}
use mathlib.Core.Path.{◌≡◌, refl, sym, ap, ap₂, ◌∙◌}
use mathlib.Core.List.{[], ◌∷◌, ◌++◌, append_assoc}
use lib.ListN.{length, take, drop, set, replicate, length-append, length-take, length-drop, length-replicate}
use lib.Seq.{paste, length-take-le, drop-append-add, drop-drop, drop-append-le}
use native.Mathlib.Omega.{arith}
use borrow.Rule.Slice.PartMut.{put_mid}
use Rattle.rules.specs.Bytes.{Text}
use Rattle.rules.specs.SheetLines.{ended}
use Rattle.rules.specs.Page.{columns, page_line, heading}
use Rattle.laws.proofs.Sheets.PageLines.{columns_length, page_line_length}
use Rattle.text.specs.Printing.{printed_over}
use Rattle.tree.proofs.Printing.{put_part, written_byte, length_written, written_then}

-- columns are what they begin with, and blanks

columns_none : (n : ℕ) → columns n [] ≡ replicate n 32
unfolding columns
columns_none zero = refl
columns_none (suc n) = ap (λ (s : Text). 32 ∷ s) (columns_none n)

columns_short : (n : ℕ) (s : Text) → length s ≤ n → columns n s ≡ s ++ replicate (n - length s) 32
unfolding columns
columns_short n [] h = let e : n ≡ n - 0 = omega arith in columns_none n ∙ ap (λ (k : ℕ). replicate k 32) e
columns_short zero (b ∷ s) h = absurd (omega arith)
columns_short (suc n) (b ∷ s) h =
    let e : n - length s ≡ suc n - length (b ∷ s) = omega arith in
    ap (λ (t : Text). b ∷ t) (columns_short n s (omega arith) ∙ ap (λ (k : ℕ). s ++ replicate k 32) e)

pub blank_line : page_line [] [] ≡ replicate 72 32
unfolding page_line
blank_line = ap₂ ◌++◌ (columns_none 9) (columns_none 63)

abbrev pub heading_front : ℕ → Text
heading_front n = 80 ∷ 65 ∷ 71 ∷ 69 ∷ 32 ∷ (48 + n / 1000 % 10) ∷ (48 + n / 100 % 10) ∷ (48 + n / 10 % 10) ∷ (48 + n % 10) ∷ []

heading_parts : (n : ℕ) → heading n ≡ heading_front n ++ replicate 63 32
unfolding heading
heading_parts n = columns_short 72 (heading_front n) (omega arith)

-- bytes past what is written stay

module _ (out bs : Text) (at : ℕ) (h : at + length bs ≤ length out) where
  pub past_written : drop (at + length bs) (printed_over out at bs) ≡ drop (at + length bs) out
  unfolding printed_over
  past_written =
      let e : length (take at out) ≡ at = length-take-le at out (omega arith) in
      ap (λ (n : ℕ). drop (n + length bs) (take at out ++ (bs ++ drop (at + length bs) out))) (sym e)
      ∙ drop-append-add (take at out) (bs ++ drop (at + length bs) out) (length bs)
      ∙ lib.Seq.drop-append_seam bs (drop (at + length bs) out)

  pub past_written_from : (from : ℕ) → at + length bs ≤ from → drop from (printed_over out at bs) ≡ drop from out
  past_written_from from k =
      let e : from ≡ (at + length bs) + (from - (at + length bs)) = omega arith in
      ap (λ (n : ℕ). drop n (printed_over out at bs)) e
      ∙ sym (drop-drop (from - (at + length bs)) (at + length bs) (printed_over out at bs))
      ∙ ap (drop (from - (at + length bs))) past_written
      ∙ drop-drop (from - (at + length bs)) (at + length bs) out
      ∙ ap (λ (n : ℕ). drop n out) (sym e)

-- one part after another, by the place where the second is written
pub then_at : (out a b : Text) (at : ℕ) {v w : Text} {n : ℕ} → at + length a ≤ length out → v ≡ printed_over out at a → n ≡ at + length a
    → w ≡ printed_over v n b → w ≡ printed_over out at (a ++ b)
then_at out a b at h e f g = g ∙ ap₂ (λ (l : Text) (k : ℕ). printed_over l k b) e f ∙ written_then out at a b h

-- blanks, and byte 10

pub blanks_put : (out : Text) {v : Text} (from to : ℕ) → from ≤ to → to < length out → v ≡ replicate (length (take (to - from) (drop from out))) 32
    → set (put_mid from (to - from) out v) to 10 ≡ printed_over out from (replicate (to - from) 32 ++ 10 ∷ [])
blanks_put out {v} from to h k e =
    let l : length (take (to - from) (drop from out)) ≡ to - from = simp (length-take, length-drop) (omega arith) in
    let r = length-replicate {A = ℕ} (to - from) 32 in
    let p : put_mid from (to - from) out v ≡ printed_over out from (replicate (to - from) 32) =
    put_part out from (sym r) (e ∙ ap (λ (n : ℕ). replicate n 32) l) in
    let q = length_written out from (replicate (to - from) 32) (omega arith) in
    then_at out (replicate (to - from) 32) (10 ∷ []) from (omega arith) p (omega arith) (written_byte (put_mid from (to - from) out v) to 10 (omega (arith, ap length p)))

pub heading_put : (out : Text) {v w : Text} (at n : ℕ) → at + 73 ≤ length out → v ≡ heading_front n
    → w ≡ printed_over (put_mid at (at + 9 - at) out v) (at + 9) (replicate (at + 72 - (at + 9)) 32 ++ 10 ∷ []) → w ≡ printed_over out at (heading n ++ 10 ∷ [])
heading_put out {v} {w} at n h e f =
    let k : at + 72 - (at + 9) ≡ 63 = omega arith in
    let l : at + 9 - at ≡ length (heading_front n) = omega arith in
    then_at out (heading_front n) (replicate 63 32 ++ 10 ∷ []) at (omega arith) (put_part out at l e) (omega arith)
    (f ∙ ap (λ (m : ℕ). printed_over (put_mid at (at + 9 - at) out v) (at + 9) (replicate m 32 ++ 10 ∷ [])) k)
    ∙ ap (printed_over out at) (sym (append_assoc (heading_front n) (replicate 63 32) (10 ∷ [])) ∙ ap (λ (s : Text). s ++ 10 ∷ []) (sym (heading_parts n)))

-- bytes copied from a place ahead, and blanks

module _ (out : Text) (from count at to : ℕ) (h : at + count ≤ to) (k : from + count ≤ length out) (m : to ≤ length out) where
  abbrev ahead : Text
  ahead = take count (drop from out)

  ahead_length : length ahead ≡ count
  ahead_length = length-take-le count (drop from out) (omega (arith, length-drop from out))

  copied : {v : Text} → v ≡ paste out at (drop from out) (from + count - from) → v ≡ printed_over out at ahead
  unfolding printed_over
  copied {v} e =
      let n : from + count - from ≡ count = omega arith in
      let l = ahead_length in
      e ∙ ap (λ (i : ℕ). paste out at (drop from out) i) n ∙ append_assoc (take at out) ahead (drop (at + count) out)
      ∙ ap (λ (i : ℕ). take at out ++ (ahead ++ drop (at + i) out)) (sym l)

  pub columns_put : {v w : Text} → v ≡ paste out at (drop from out) (from + count - from)
      → w ≡ replicate (length (take (to - (at + count)) (drop (at + count) v))) 32
      → put_mid (at + count) (to - (at + count)) v w ≡ printed_over out at (columns (to - at) (take count (drop from out)))
  columns_put {v} {w} e f =
      let l = ahead_length in
      let c = copied e in
      let o = length_written out at ahead (omega arith) in
      let i : length v ≡ length out = ap length c ∙ o in
      let n : length (take (to - (at + count)) (drop (at + count) v)) ≡ to - (at + count) = simp (length-take, length-drop) (omega arith) in
      let r = length-replicate {A = ℕ} (to - (at + count)) 32 in
      let j : to - at - length ahead ≡ to - (at + count) = omega arith in
      then_at out ahead (replicate (to - (at + count)) 32) at (omega arith) c (omega arith)
      (put_part v (at + count) (sym r) (f ∙ ap (λ (x : ℕ). replicate x 32) n))
      ∙ ap (printed_over out at) (ap (λ (x : ℕ). ahead ++ replicate x 32) (sym j) ∙ sym (columns_short (to - at) ahead (omega arith)))

-- a line by its two parts
module _ (out : Text) (at key from count : ℕ) (h : at + 9 ≤ from) (k : from + count ≤ length out) (m : at + 73 ≤ length out) where
  abbrev key_part : Text
  key_part = take key (drop (from - 1 - key) out)

  pub line_put : {v w : Text} → v ≡ printed_over out at (columns 9 key_part)
      → w ≡ printed_over v (at + 9) (columns (at + 72 - (at + 9)) (take count (drop from v)))
      → set w (at + 72) 10 ≡ printed_over out at (page_line key_part (take count (drop from out)) ++ 10 ∷ [])
  unfolding page_line
  line_put {v} {w} e f =
      let j : at + 72 - (at + 9) ≡ 63 = omega arith in
      let a = columns 9 key_part in
      let la = columns_length 9 key_part in
      let b = columns 63 (take count (drop from out)) in
      let lb = columns_length 63 (take count (drop from out)) in
      let d : drop from v ≡ drop from out = ap (drop from) e ∙ past_written_from out a at (omega arith) from (omega arith) in
      let f' : w ≡ printed_over v (at + 9) b = f ∙ ap₂ (λ (x : ℕ) (s : Text). printed_over v (at + 9) (columns x (take count s))) j d in
      let g = then_at out a b at (omega arith) e (omega arith) f' in
      let lab = length-append a b in
      let lw = ap length g ∙ length_written out at (a ++ b) (omega arith) in
      then_at out (a ++ b) (10 ∷ []) at (omega arith) g (omega arith) (written_byte w (at + 72) 10 (omega arith))

-- blank lines

ended_more : (i : ℕ) (l : Text) → ended (replicate (i + 1) l) ≡ ended (replicate i l) ++ (l ++ 10 ∷ [])
unfolding ended
ended_more zero l = refl
ended_more (suc i) l = ap (λ (n : ℕ). ended (replicate n l)) (let e : suc i + 1 ≡ suc (i + 1) = omega arith in e) ∙ ap (λ (s : Text). l ++ (10 ∷ s)) (ended_more i l) ∙ sym (append_assoc l (10 ∷ ended (replicate i l)) (l ++ 10 ∷ []))

pub blanks_length : (i : ℕ) → length (ended (replicate i (page_line [] []))) ≡ 73 * i
unfolding ended
blanks_length zero = refl
blanks_length (suc i) =
    let r = blanks_length i in
    let l = page_line_length [] [] in
    let a = length-append (page_line [] []) (10 ∷ ended (replicate i (page_line [] []))) in
    omega arith

module _ (out : Text) (at : ℕ) where
  pub blanks_none : out ≡ printed_over out at (ended (replicate 0 (page_line [] [])))
  unfolding ended
  blanks_none = sym (Rattle.tree.proofs.Printing.written_none out at)

  module _ (i : ℕ) (h : at + 73 * (i + 1) ≤ length out) {v : Text} (e : v ≡ printed_over out at (ended (replicate i (page_line [] [])))) where
    pub blanks_room : length v ≡ length out
    blanks_room = let l = blanks_length i in ap length e ∙ length_written out at (ended (replicate i (page_line [] []))) (omega arith)

    pub blanks_more : {w : Text} {n : ℕ} → n ≡ at + 73 * i → w ≡ printed_over v n (replicate (n + 72 - n) 32 ++ 10 ∷ [])
        → w ≡ printed_over out at (ended (replicate (i + 1) (page_line [] [])))
    blanks_more {w} {n} f g =
        let l = blanks_length i in
        let k : n + 72 - n ≡ 72 = omega arith in
        then_at out (ended (replicate i (page_line [] []))) (page_line [] [] ++ 10 ∷ []) at (omega arith) e (omega arith)
        (g ∙ ap (λ (s : Text). printed_over v n (s ++ 10 ∷ [])) (ap (λ (x : ℕ). replicate x 32) k ∙ sym blank_line))
        ∙ ap (printed_over out at) (sym (ended_more i (page_line [] [])))

  pub blanks_all : {i n : ℕ} {v : Text} → i ≡ n → v ≡ printed_over out at (ended (replicate i (page_line [] []))) → v ≡ printed_over out at (ended (replicate n (page_line [] [])))
  blanks_all e f = f ∙ ap (λ (k : ℕ). printed_over out at (ended (replicate k (page_line [] [])))) e
