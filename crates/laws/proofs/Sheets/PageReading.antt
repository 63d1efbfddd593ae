-- Reading the columns back: what lines on paper read as.
use mathlib.Core.Path.{◌≡◌, refl, sym, ◌∙◌, ap, ap₂}
use mathlib.Core.Bool.{true, false}
use mathlib.Core.List.{List, [], ◌∷◌, ◌++◌, append_assoc, append-nil}
use Prim.Native.Nat.{ℕ, zero, suc, ◌-◌, ◌≤◌, ◌<◌}
use native.Mathlib.Omega.{arith}
use lib.Dec.{eqb}
use lib.ListN.{length, take, drop, replicate, length-drop, take-append-drop}
use lib.Seq.{take_at, drop_at, take_all}
use Rattle.rules.specs.Bytes.{Text}
use Rattle.rules.specs.Names.{all}
use Rattle.rules.specs.Sheet.{Entry}
use Rattle.rules.specs.Page.{columns, page_line, below, lines_within, text_lines, lines_of, to_blank, read_columns, read_lines}
use Rattle.laws.specs.Laying.{solid, all_columned, entry_lines}
use Rattle.laws.proofs.Basics.Tests.{and_left, and_right}
use Rattle.laws.proofs.Basics.Bytes.{not_byte, all_drop}
use Rattle.laws.proofs.Sheets.PageLines.{columns_length}
use Rattle.laws.proofs.Sheets.Entries.{first_columned, rest_columned, key_short, key_some, key_solid, text_solid}

columns_read : (n : ℕ) (s : Text) → all solid s ≡ true → to_blank (columns n s) ≡ take n s
unfolding columns to_blank all
columns_read zero s h = refl
columns_read (suc n) [] h = refl
columns_read (suc n) (b ∷ s) h =
    let i = columns_read n s (and_right (solid b) (all solid s) h) in
    let j : eqb b 32 ≡ false = not_byte solid 32 refl b (and_left (solid b) (all solid s) h) in
    rw (j, i)

module _ (key text : Text) (rs : List Text) where
  first_columns : take 9 (page_line key text) ≡ columns 9 key
  unfolding page_line
  first_columns = take_at (columns 9 key) (columns 63 text) 9 (columns_length 9 key)

  later_columns : drop 9 (page_line key text) ≡ columns 63 text
  unfolding page_line
  later_columns = drop_at (columns 9 key) (columns 63 text) 9 (columns_length 9 key)

  page_line_read : length key ≤ 9 → all solid key ≡ true → all solid text ≡ true
      → read_lines (page_line key text ∷ rs) ≡ read_columns key (take 63 text) (read_lines rs)
  unfolding read_lines
  page_line_read l h k =
      ap₂ (λ (a b : Text). read_columns a b (read_lines rs))
      (ap to_blank first_columns ∙ columns_read 9 key h ∙ take_all 9 key l)
      (ap to_blank later_columns ∙ columns_read 63 text k)

-- text above text of the same key
columns_joined : (key text more : Text) (after : Text × Text) → read_columns key text (read_columns [] more after) ≡ read_columns key (text ++ more) after
columns_joined [] text more after = ap (λ (t : Text). (t, after.1)) (sym (append_assoc text more after.0))
columns_joined (k ∷ key) text more after =
    ap (λ (t : Text). ([], (k ∷ key) ++ (61 ∷ t)))
    (ap (λ (t : Text). text ++ t) (append_assoc more after.0 (10 ∷ after.1)) ∙ sym (append_assoc text more (after.0 ++ (10 ∷ after.1))))

no_key : all solid [] ≡ true
unfolding all
no_key = refl

within_read : (k : ℕ) (key text : Text) (rs : List Text) → length text < k → length key ≤ 9 → all solid key ≡ true → all solid text ≡ true
    → read_lines (lines_within k key text ++ rs) ≡ read_columns key text (read_lines rs)
unfolding lines_within
within_read zero key text rs l m h i = absurd (omega arith)
within_read (suc k) key text rs l m h i =
    page_line_read key text (below (λ rest. lines_within k [] rest) (drop 63 text) ++ rs) m h i
    ∙ go (drop 63 text) (take-append-drop 63 text) (length-drop 63 text) (all_drop solid 63 text i) (λ s n j. within_read k [] s rs n (omega arith) no_key j)
  where
    go : (s : Text) → take 63 text ++ s ≡ text → length s ≡ length text - 63 → all solid s ≡ true
        → ((s : Text) → length s < k → all solid s ≡ true → read_lines (lines_within k [] s ++ rs) ≡ read_columns [] s (read_lines rs))
        → read_columns key (take 63 text) (read_lines (below (λ rest. lines_within k [] rest) s ++ rs)) ≡ read_columns key text (read_lines rs)
    go [] e n j f = ap (λ (t : Text). read_columns key t (read_lines rs)) (sym (append-nil (take 63 text)) ∙ e)
    go (b ∷ s) e n j f =
        ap (read_columns key (take 63 text)) (f (b ∷ s) (omega arith) j)
        ∙ columns_joined key (take 63 text) (b ∷ s) (read_lines rs)
        ∙ ap (λ (t : Text). read_columns key t (read_lines rs)) e

blank_read : (m : ℕ) → read_lines (replicate m (page_line [] [])) ≡ ([], [])
unfolding read_lines
blank_read zero = refl
blank_read (suc m) = page_line_read [] [] (replicate m (page_line [] [])) (omega arith) no_key no_key ∙ ap (read_columns [] []) (blank_read m)

with_key : (key text a : Text) → 1 ≤ length key → read_columns key text ([], a) ≡ ([], (key ++ 61 ∷ text) ++ 10 ∷ a)
with_key [] text a h = absurd (omega arith)
with_key (k ∷ key) text a h = ap (λ (t : Text). ([], k ∷ t)) (sym (append_assoc key (61 ∷ text) (10 ∷ a)))

pub lines_read : (es : List Entry) (m : ℕ) → all_columned es ≡ true → read_lines (lines_of es ++ replicate m (page_line [] [])) ≡ ([], entry_lines es)
unfolding lines_of text_lines entry_lines
lines_read [] m h = blank_read m
lines_read (e ∷ es) m h =
    let c = first_columned e es h in
    let l = key_short e c in
    ap read_lines (append_assoc (lines_within (suc (length e.1)) e.0 e.1) (lines_of es) (replicate m (page_line [] [])))
    ∙ within_read (suc (length e.1)) e.0 e.1 (lines_of es ++ replicate m (page_line [] [])) (omega arith) (omega arith) (key_solid e c) (text_solid e c)
    ∙ ap (read_columns e.0 e.1) (lines_read es m (rest_columned e es h))
    ∙ with_key e.0 e.1 (entry_lines es) (key_some e c)
