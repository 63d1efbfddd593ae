-- An answer laid out in pages: its lines, their count and width, the headings, what stands below them, and what the columns read as.
use mathlib.Core.Path.{◌≡◌, refl, sym, ◌∙◌, ap}
use mathlib.Core.Bool.{true}
use mathlib.Core.List.{List, [], ◌∷◌, ◌++◌}
use mathlib.Core.Logic.{◌↔◌}
use Rattle.std.specs.Prelude.{Option, Some}
use Prim.Native.Nat.{ℕ, zero, suc, ◌+◌, ◌-◌, ◌*◌, ◌/◌, ◌≤◌, ◌<◌}
use native.Mathlib.Omega.{arith}
use lib.ListN.{length, replicate, get_or, length-append, length-replicate}
use Rattle.rules.specs.Bytes.{Text}
use Rattle.rules.specs.Maybe.{otherwise}
use Rattle.rules.specs.Lines.{lines}
use Rattle.rules.specs.Sheet.{Entry}
use Rattle.rules.specs.SheetLines.{ended}
use Rattle.rules.specs.Page.{page_line, lines_of, entries, heading, paged, page_lines, page_count, page, unheaded, read_lines, read_page}
use Rattle.laws.specs.Laying.{all_columned, entry_lines, Columned, line_count}
use Rattle.laws.proofs.Sheets.Clean.{line_read}
use Rattle.laws.proofs.Sheets.PageLines.{page_line_length, page_line_clean, heading_clean, heading_length, OnPaper}
use Rattle.laws.proofs.Sheets.Entries.{lines_clean, entries_read, lines_count}
use Rattle.laws.proofs.Sheets.PageReading.{lines_read}

-- Pages

abbrev blank_lines : ℕ → List Text
blank_lines m = replicate m (page_line [] [])

blanks_unheaded : (left : ℕ) → unheaded left (blank_lines left) ≡ blank_lines left
unfolding unheaded
blanks_unheaded zero = refl
blanks_unheaded (suc left) = ap (λ (rs : List Text). page_line [] [] ∷ rs) (blanks_unheaded left)

-- without the headings, the lines and at most 48 blank ones
paged_unheaded : (left n : ℕ) (rs : List Text) → left ≤ 48 → (m : ℕ) × (m ≤ 48) × (unheaded left (paged left n rs) ≡ rs ++ blank_lines m)
unfolding paged unheaded
paged_unheaded left n [] h = (left, h, blanks_unheaded left)
paged_unheaded zero n (r ∷ rs) h = let (m, k, e) = paged_unheaded 48 (suc n) rs (omega arith) in (m, k, ap (λ (qs : List Text). r ∷ qs) e)
paged_unheaded (suc left) n (r ∷ rs) h = let (m, k, e) = paged_unheaded left n rs (omega arith) in (m, k, ap (λ (qs : List Text). r ∷ qs) e)

blank_paper : (m : ℕ) → OnPaper (blank_lines m)
blank_paper zero = tt
blank_paper (suc m) = (page_line_length [] [], page_line_clean [] [] tt tt, blank_paper m)

pub paged_paper : (left n : ℕ) (rs : List Text) → OnPaper rs → OnPaper (paged left n rs)
unfolding paged
paged_paper left n [] h = blank_paper left
paged_paper zero n (r ∷ rs) h = (heading_length n, heading_clean n, (h.0, h.1, paged_paper 48 (suc n) rs h.2))
paged_paper (suc left) n (r ∷ rs) h = (h.0, h.1, paged_paper left n rs h.2)

pub paged_count : (left n : ℕ) (rs : List Text) → length (paged left n rs) ≡ left + 50 * ((length rs - left + 48) / 49)
unfolding paged
paged_count left n [] = let e = length-replicate left (page_line [] []) in omega arith
paged_count zero n (r ∷ rs) = let i = paged_count 48 (suc n) rs in omega arith
paged_count (suc left) n (r ∷ rs) = let i = paged_count left n rs in omega arith

ended_lines : (rs : List Text) → OnPaper rs → lines (ended rs) ≡ Some rs
unfolding ended lines
ended_lines [] h = refl
ended_lines (r ∷ rs) h = line_read r h.1 (ended rs) rs (ended_lines rs h.2)

pub ended_length : (rs : List Text) → OnPaper rs → length (ended rs) ≡ 73 * length rs
unfolding ended
ended_length [] h = refl
ended_length (r ∷ rs) h = let i = ended_length rs h.2 in let j = h.0 in let k = length-append r (10 ∷ ended rs) in omega arith

-- a heading before every 49 lines
paged_heading : (left n : ℕ) (rs : List Text) (i : ℕ) → i < (length rs - left + 48) / 49 → get_or (paged left n rs) (left + 50 * i) [] ≡ heading (n + i)
unfolding paged
paged_heading left n [] i h = absurd (omega arith)
paged_heading zero n (r ∷ rs) zero h = let q : n ≡ n + 0 = omega arith in ap heading q
paged_heading zero n (r ∷ rs) (suc i) h =
    let p : 0 + 50 * suc i ≡ suc (suc (48 + 50 * i)) = omega arith in
    let q : suc n + i ≡ n + suc i = omega arith in
    ap (λ (k : ℕ). get_or (heading n ∷ r ∷ paged 48 (suc n) rs) k []) p ∙ paged_heading 48 (suc n) rs i (omega arith) ∙ ap heading q
paged_heading (suc left) n (r ∷ rs) i h =
    let p : suc left + 50 * i ≡ suc (left + 50 * i) = omega arith in
    ap (λ (k : ℕ). get_or (r ∷ paged left n rs) k []) p ∙ paged_heading left n rs i (omega arith)

paper_width : (rs : List Text) → OnPaper rs → (i : ℕ) → i < length rs → length (get_or rs i []) ≡ 72
paper_width [] h i l = absurd (omega arith)
paper_width (r ∷ rs) h zero l = h.0
paper_width (r ∷ rs) h (suc i) l = paper_width rs h.2 i (omega arith)

-- The answer

-- below the headings stand its lines in order, and then blank lines
pub page_below : (a : Text) → (m : ℕ) × (m ≤ 48) × (unheaded 0 (page_lines a) ≡ lines_of (entries a) ++ replicate m (page_line [] []))
unfolding page_lines
page_below a = paged_unheaded 0 1 (lines_of (entries a)) (omega arith)

-- 9,999 pages hold 489,951 lines
pub page_limit : (a : Text) → (page_count a ≤ 9999) ↔ (length (lines_of (entries a)) ≤ 489951)
unfolding page_count
page_limit a = (λ h. omega arith, λ h. omega arith)

pub page_lines_count : (a : Text) → length (page_lines a) ≡ 50 * page_count a
unfolding page_lines page_count
page_lines_count a = let i = paged_count 0 1 (lines_of (entries a)) in omega arith

pub page_heading : (a : Text) (i : ℕ) → i < page_count a → get_or (page_lines a) (50 * i) [] ≡ heading (1 + i)
unfolding page_lines page_count
page_heading a i h =
    let e : 0 + 50 * i ≡ 50 * i = omega arith in
    ap (λ (k : ℕ). get_or (paged 0 1 (lines_of (entries a))) k []) (sym e) ∙ paged_heading 0 1 (lines_of (entries a)) i (omega arith)

count_least : (es : List Entry) → 1 ≤ length es → 1 ≤ line_count es
unfolding line_count
count_least [] h = absurd (omega arith)
count_least (e ∷ es) h = omega arith

module _ (a : Text) (c : Columned a) where
  pub answer_entries : entries a ≡ c.fields
  answer_entries = ap entries c.listed ∙ entries_read c.fields c.fit

  pub entries_listed : a ≡ entry_lines (entries a)
  entries_listed = c.listed ∙ ap entry_lines (sym answer_entries)

  answer_paper : OnPaper (lines_of (entries a))
  answer_paper = rw answer_entries (lines_clean c.fields c.fit)

  all_paper : OnPaper (page_lines a)
  unfolding page_lines
  all_paper = paged_paper 0 1 (lines_of (entries a)) answer_paper

  pub page_splits : lines (page a) ≡ Some (page_lines a)
  unfolding page
  page_splits = ended_lines (page_lines a) all_paper

  pub page_width : (i : ℕ) → i < length (page_lines a) → length (get_or (page_lines a) i []) ≡ 72
  page_width = paper_width (page_lines a) all_paper

  pub page_length : length (page a) ≡ 3650 * page_count a
  unfolding page
  page_length = let i = ended_length (page_lines a) all_paper in let j = page_lines_count a in omega arith

  pub page_counted : page_count a ≡ (line_count c.fields + 48) / 49
  unfolding page_count
  page_counted = ap (λ (n : ℕ). (n + 48) / 49) (ap (λ (es : List Entry). length (lines_of es)) answer_entries ∙ lines_count c.fields)

  pub entries_columned : all_columned (entries a) ≡ true
  entries_columned = rw answer_entries c.fit

  pub page_least : 1 ≤ page_count a
  page_least = let i = page_counted in let j = count_least c.fields c.filled in omega arith

  -- reading the columns back gives the answer
  pub page_read : read_page (page a) ≡ a
  unfolding read_page
  page_read =
      let (m, h, e) = page_below a in
      ap (λ (o : Option (List Text)). (read_lines (unheaded 0 (otherwise o []))).1) page_splits
      ∙ ap (λ (rs : List Text). (read_lines rs).1) (e ∙ ap (λ (es : List Entry). lines_of es ++ blank_lines m) answer_entries)
      ∙ ap (λ (z : Text × Text). z.1) (lines_read c.fields m c.fit)
      ∙ sym c.listed
