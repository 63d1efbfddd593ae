-- Lines on paper: 72 characters without byte 10, how many a text takes, and the heading of a page.
use mathlib.Core.Path.{◌≡◌, refl, sym, ◌∙◌, ap}
use mathlib.Core.Bool.{false}
use mathlib.Core.List.{List, [], ◌∷◌, ◌++◌}
use Prim.Native.Nat.{ℕ, zero, suc, ◌+◌, ◌-◌, ◌*◌, ◌/◌, ◌%◌, ◌≤◌, ◌<◌}
use native.Mathlib.Nat.{div-div-eq-div-mul}
use native.Mathlib.Omega.{arith}
use lib.Dec.{eqb}
use lib.ListN.{length, take, drop, length-append, length-drop}
use Rattle.rules.specs.Bytes.{Text}
use Rattle.rules.specs.Text.{bytes}
use Rattle.rules.specs.Decimal.{value_from}
use Rattle.rules.specs.Page.{columns, page_line, below, lines_within, text_lines, heading}
use Rattle.laws.proofs.Basics.Tests.{eqb_differs}
use Rattle.laws.proofs.Sheets.Clean.{Clean, clean_append}

pub columns_length : (n : ℕ) (s : Text) → length (columns n s) ≡ n
unfolding columns
columns_length zero s = refl
columns_length (suc n) [] = ap suc (columns_length n [])
columns_length (suc n) (b ∷ s) = ap suc (columns_length n s)

pub page_line_length : (key text : Text) → length (page_line key text) ≡ 72
unfolding page_line
page_line_length key text = simp (length-append, columns_length)

columns_clean : (n : ℕ) (s : Text) → Clean s → Clean (columns n s)
unfolding columns
columns_clean zero s c = tt
columns_clean (suc n) [] c = (refl, columns_clean n [] c)
columns_clean (suc n) (b ∷ s) c = (c.0, columns_clean n s c.1)

pub page_line_clean : (key text : Text) → Clean key → Clean text → Clean (page_line key text)
unfolding page_line
page_line_clean key text c d = clean_append (columns 9 key) (columns 63 text) (columns_clean 9 key c) (columns_clean 63 text d)

digit_ten : (n : ℕ) → eqb (48 + n) 10 ≡ false
digit_ten n = eqb_differs (48 + n) 10 (λ e. omega arith)

pub heading_clean : (n : ℕ) → Clean (heading n)
unfolding heading
heading_clean n =
    columns_clean 72 (bytes "PAGE " ++ (48 + n / 1000 % 10) ∷ (48 + n / 100 % 10) ∷ (48 + n / 10 % 10) ∷ (48 + n % 10) ∷ [])
    (refl, (refl, (refl, (refl, (refl, (digit_ten (n / 1000 % 10), (digit_ten (n / 100 % 10), (digit_ten (n / 10 % 10), (digit_ten (n % 10), tt)))))))))

pub heading_length : (n : ℕ) → length (heading n) ≡ 72
unfolding heading
heading_length n = columns_length 72 (bytes "PAGE " ++ (48 + n / 1000 % 10) ∷ (48 + n / 100 % 10) ∷ (48 + n / 10 % 10) ∷ (48 + n % 10) ∷ [])

digits_sum : (a b c d : ℕ) → value_from 0 ((48 + a) ∷ (48 + b) ∷ (48 + c) ∷ (48 + d) ∷ []) ≡ 1000 * a + 100 * b + 10 * c + d
unfolding value_from
digits_sum a b c d = omega arith

-- its four digits are the number
pub heading_number : (n : ℕ) → n ≤ 9999 → value_from 0 (take 4 (drop 5 (heading n))) ≡ n
unfolding heading columns
heading_number n h =
    let i : n / 100 ≡ n / 10 / 10 = sym (div-div-eq-div-mul n 10 10) in
    let j : n / 1000 ≡ n / 100 / 10 = sym (div-div-eq-div-mul n 100 10) in
    let k : n / 1000 % 10 ≡ n / 1000 = omega arith in
    let l : n / 100 ≡ 10 * (n / 1000) + n / 100 % 10 = omega arith in
    let m : n / 10 ≡ 10 * (n / 100) + n / 10 % 10 = omega arith in
    let o : n ≡ 10 * (n / 10) + n % 10 = omega arith in
    digits_sum (n / 1000 % 10) (n / 100 % 10) (n / 10 % 10) (n % 10) ∙ omega arith

-- lines of 72 characters, none of them byte 10
abbrev pub OnPaper : List Text → Type 0
OnPaper [] = Unit {0}
OnPaper (r ∷ rs) = (length r ≡ 72) × Clean r × OnPaper rs

pub paper_append : (rs qs : List Text) → OnPaper rs → OnPaper qs → OnPaper (rs ++ qs)
paper_append [] qs h k = k
paper_append (r ∷ rs) qs h k = (h.0, h.1, paper_append rs qs h.2 k)

drop_clean : (n : ℕ) (s : Text) → Clean s → Clean (drop n s)
drop_clean zero s c = c
drop_clean (suc n) [] c = tt
drop_clean (suc n) (b ∷ s) c = drop_clean n s c.1

pub within_paper : (k : ℕ) (key text : Text) → Clean key → Clean text → OnPaper (lines_within k key text)
unfolding lines_within
within_paper zero key text c d = tt
within_paper (suc k) key text c d = (page_line_length key text, page_line_clean key text c d, go (drop 63 text) (drop_clean 63 text d) (λ s. within_paper k [] s tt))
  where
    go : (s : Text) → Clean s → ((r : Text) → Clean r → OnPaper (lines_within k [] r)) → OnPaper (below (λ rest. lines_within k [] rest) s)
    go [] e f = tt
    go (b ∷ s) e f = f (b ∷ s) e

-- how many lines a text takes
within_count : (k : ℕ) (key text : Text) → length text < k → length (lines_within k key text) ≡ 1 + (length text - 1) / 63
unfolding lines_within
within_count zero key text h = absurd (omega arith)
within_count (suc k) key text h = go (drop 63 text) (length-drop 63 text) (within_count k [])
  where
    go : (s : Text) → length s ≡ length text - 63 → ((r : Text) → length r < k → length (lines_within k [] r) ≡ 1 + (length r - 1) / 63)
        → suc (length (below (λ rest. lines_within k [] rest) s)) ≡ 1 + (length text - 1) / 63
    go [] e f = omega arith
    go (b ∷ s) e f = let i = f (b ∷ s) (omega arith) in omega arith

-- the bound on the lines refuses none
within_same : (k j : ℕ) (key text : Text) → length text < k → length text < j → lines_within k key text ≡ lines_within j key text
unfolding lines_within
within_same zero j key text h i = absurd (omega arith)
within_same (suc k) zero key text h i = absurd (omega arith)
within_same (suc k) (suc j) key text h i = ap (λ (rs : List Text). page_line key text ∷ rs) (go (drop 63 text) (length-drop 63 text) (within_same k j []))
  where
    go : (s : Text) → length s ≡ length text - 63 → ((r : Text) → length r < k → length r < j → lines_within k [] r ≡ lines_within j [] r)
        → below (λ rest. lines_within k [] rest) s ≡ below (λ rest. lines_within j [] rest) s
    go [] e f = refl
    go (b ∷ s) e f = f (b ∷ s) (omega arith) (omega arith)

-- a text's lines, one at a time
pub text_lines_next : (key text : Text) → text_lines key text ≡ page_line key text ∷ below (λ rest. text_lines [] rest) (drop 63 text)
unfolding text_lines lines_within
text_lines_next key text = ap (λ (rs : List Text). page_line key text ∷ rs) (go (drop 63 text) (length-drop 63 text))
  where
    go : (s : Text) → length s ≡ length text - 63 → below (λ rest. lines_within (length text) [] rest) s ≡ below (λ rest. lines_within (suc (length rest)) [] rest) s
    go [] e = refl
    go (b ∷ s) e = within_same (length text) (suc (length (b ∷ s))) [] (b ∷ s) (omega arith) (omega arith)

-- and their count
pub text_lines_count : (key text : Text) → length (text_lines key text) ≡ 1 + (length text - 1) / 63
unfolding text_lines
text_lines_count key text = within_count (suc (length text)) key text (omega arith)
