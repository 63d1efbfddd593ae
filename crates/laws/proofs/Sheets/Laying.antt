-- Laying out an answer: its lines on paper counted in one pass over its bytes, and that laying it out from left to right in the place
-- of the answer never passes what is still unread.
use mathlib.Core.Path.{◌≡◌, refl, sym, ◌∙◌, ap}
use mathlib.Core.Bool.{Bool, true, false, cond}
use mathlib.Core.List.{List, [], ◌∷◌, ◌++◌, append_assoc}
use Prim.Native.Nat.{ℕ, suc, ◌+◌, ◌-◌, ◌*◌, ◌/◌, ◌≤◌}
use native.Mathlib.Omega.{arith}
use lib.Dec.{eqb}
use lib.ListN.{length, length-append}
use Rattle.rules.specs.Bytes.{Text}
use Rattle.rules.specs.Names.{all}
use Rattle.rules.specs.Sheet.{Entry}
use Rattle.rules.specs.SheetLines.{ended}
use Rattle.rules.specs.Page.{text_lines, lines_of, paged, page_count}
use Rattle.laws.specs.Laying.{solid, solid_key, all_columned, entry_lines, Columned, line_count, lines_after_key, lines_in_text}
use Rattle.laws.proofs.Basics.Tests.{and_left, and_right, eqb_true, differs_eqb}
use Rattle.laws.proofs.Basics.Bytes.{not_byte}
use Rattle.laws.proofs.Sheets.PageLines.{OnPaper, paper_append, text_lines_count}
use Rattle.laws.proofs.Sheets.Entries.{first_columned, rest_columned, key_short, key_bytes, text_solid, text_clean, lines_clean, lines_count}
use Rattle.laws.proofs.Sheets.Pages.{paged_paper, paged_count, ended_length, answer_entries}

-- Counting the lines in one pass

text_passed : (n : ℕ) (text rest : Text) → n ≤ 63 → all solid text ≡ true
    → lines_in_text n (text ++ 10 ∷ rest) ≡ (1 + (n + length text - 1) / 63) + lines_after_key rest
unfolding lines_in_text all
text_passed n [] rest h k = omega arith
text_passed n (b ∷ text) rest h k =
    let j : eqb b 10 ≡ false = not_byte solid 10 refl b (and_left (solid b) (all solid text) k) in
    rw j (go (eqb n 63) refl (λ m l. text_passed m text rest l (and_right (solid b) (all solid text) k)))
  where
    go : (c : Bool) → eqb n 63 ≡ c
        → ((m : ℕ) → m ≤ 63 → lines_in_text m (text ++ 10 ∷ rest) ≡ (1 + (m + length text - 1) / 63) + lines_after_key rest)
        → cond c (suc (lines_in_text 1 (text ++ 10 ∷ rest))) (lines_in_text (suc n) (text ++ 10 ∷ rest)) ≡ (1 + (n + suc (length text) - 1) / 63) + lines_after_key rest
    go true e r = let i = r 1 (omega arith) in let p = eqb_true n 63 e in omega arith
    go false e r = let p = differs_eqb n 63 e in let i = r (suc n) (omega arith) in omega arith

key_passed : (key text : Text) → all solid_key key ≡ true → lines_after_key (key ++ 61 ∷ text) ≡ lines_in_text 0 text
unfolding lines_after_key all
key_passed [] text h = refl
key_passed (b ∷ key) text h =
    let j : eqb b 61 ≡ false = not_byte solid_key 61 refl b (and_left (solid_key b) (all solid_key key) h) in
    rw j (key_passed key text (and_right (solid_key b) (all solid_key key) h))

lines_passed : (es : List Entry) → all_columned es ≡ true → lines_after_key (entry_lines es) ≡ line_count es
unfolding entry_lines line_count lines_after_key
lines_passed [] h = refl
lines_passed (e ∷ es) h =
    let c = first_columned e es h in
    let i = lines_passed es (rest_columned e es h) in
    let j = text_passed 0 e.1 (entry_lines es) (omega arith) (text_solid e c) in
    ap lines_after_key (append_assoc e.0 (61 ∷ e.1) (10 ∷ entry_lines es)) ∙ key_passed e.0 (e.1 ++ 10 ∷ entry_lines es) (key_bytes e c) ∙ omega arith

pub lines_counted : (es : List Entry) → all_columned es ≡ true → lines_after_key (entry_lines es) ≡ length (lines_of es)
lines_counted es h = lines_passed es h ∙ sym (lines_count es)

-- Laying out in place

paged_room : (left n : ℕ) (rs : List Text) → OnPaper rs → 73 * length rs ≤ length (ended (paged left n rs))
paged_room left n rs h =
    let i = ended_length (paged left n rs) (paged_paper left n rs h) in
    let j = paged_count left n rs in
    omega arith

entries_room : (es : List Entry) → all_columned es ≡ true → length (entry_lines es) ≤ 73 * length (lines_of es)
unfolding entry_lines lines_of
entries_room [] h = omega arith
entries_room (e ∷ es) h =
    let l = key_short e (first_columned e es h) in
    let i = entries_room es (rest_columned e es h) in
    let j = text_lines_count e.0 e.1 in
    let k = length-append (text_lines e.0 e.1) (lines_of es) in
    let m = length-append (e.0 ++ 61 ∷ e.1) (10 ∷ entry_lines es) in
    let n = length-append e.0 (61 ∷ e.1) in
    omega arith

-- what is unread is never longer than what is still to be written: before a line, and, with the nine columns before the text to spare, within
-- the text of one
module _ (left n : ℕ) (es : List Entry) (h : all_columned es ≡ true) where
  pub unread_lines : length (entry_lines es) ≤ length (ended (paged left n (lines_of es)))
  unread_lines =
      let i = entries_room es h in
      let j = paged_room left n (lines_of es) (lines_clean es h) in
      omega arith

  pub unread_text : (text : Text) → all solid text ≡ true
      → 9 + length (text ++ 10 ∷ entry_lines es) ≤ length (ended (paged left n (text_lines [] text ++ lines_of es)))
  unread_text text k =
      let i = entries_room es h in
      let j = paged_room left n (text_lines [] text ++ lines_of es) (paper_append (text_lines [] text) (lines_of es) (text_clean text k) (lines_clean es h)) in
      let l = text_lines_count [] text in
      let m = length-append (text_lines [] text) (lines_of es) in
      let o = length-append text (10 ∷ entry_lines es) in
      omega arith

module _ (a : Text) (c : Columned a) where
  -- measured in one pass over the answer
  pub page_measured : page_count a ≡ (lines_after_key a + 48) / 49
  unfolding page_count
  page_measured =
      ap (λ (n : ℕ). (n + 48) / 49)
      (ap (λ (es : List Entry). length (lines_of es)) (answer_entries a c) ∙ sym (lines_counted c.fields c.fit) ∙ ap lines_after_key (sym c.listed))
