-- The keys and texts of an answer that the columns of a page can hold: how they read from its lines, and the lines that they take.
use mathlib.Core.Path.{◌≡◌, refl, ◌∙◌, ap, ap₂}
use mathlib.Core.Bool.{true, false, not}
use mathlib.Core.List.{List, [], ◌∷◌, ◌++◌, map}
use Rattle.std.specs.Prelude.{Option, Some}
use Prim.Native.Nat.{suc, ◌≤◌}
use native.Mathlib.Omega.{arith}
use lib.Dec.{eqb, leb}
use lib.ListN.{length, length-append}
use Rattle.rules.specs.Bytes.{Text}
use Rattle.rules.specs.Text.{within}
use Rattle.rules.specs.Names.{all}
use Rattle.rules.specs.Maybe.{otherwise}
use Rattle.rules.specs.Lines.{lines}
use Rattle.rules.specs.Sheet.{Entry}
use Rattle.rules.specs.Page.{lines_within, text_lines, lines_of, key_and_text, entries}
use Rattle.laws.specs.Laying.{solid, solid_key, key_fits, columned, all_columned, entry_line, entry_lines, line_count}
use Rattle.laws.proofs.Basics.Tests.{and_left, and_right, leb_true}
use Rattle.laws.proofs.Basics.Bytes.{not_byte, all_weaker}
use Rattle.laws.proofs.Sheets.Clean.{clean_append, solid_clean, line_read}
use Rattle.laws.proofs.Sheets.PageLines.{OnPaper, paper_append, within_paper, text_lines_count}

module _ (e : Entry) (es : List Entry) (h : all_columned (e ∷ es) ≡ true) where
  pub first_columned : columned e ≡ true
  unfolding all_columned
  first_columned = and_left (columned e) (all_columned es) h

  pub rest_columned : all_columned es ≡ true
  unfolding all_columned
  rest_columned = and_right (columned e) (all_columned es) h

module _ (e : Entry) (h : columned e ≡ true) where
  key_holds : key_fits e.0 ≡ true
  key_holds = and_left (key_fits e.0) (all solid e.1) h

  key_bounds : within 1 8 (length e.0) ≡ true
  key_bounds = and_left (within 1 8 (length e.0)) (all solid_key e.0) key_holds

  pub key_short : length e.0 ≤ 8
  key_short = leb_true (length e.0) 8 (and_right (leb 1 (length e.0)) (leb (length e.0) 8) key_bounds)

  pub key_some : 1 ≤ length e.0
  key_some = leb_true 1 (length e.0) (and_left (leb 1 (length e.0)) (leb (length e.0) 8) key_bounds)

  pub key_bytes : all solid_key e.0 ≡ true
  key_bytes = and_right (within 1 8 (length e.0)) (all solid_key e.0) key_holds

  pub key_solid : all solid e.0 ≡ true
  key_solid = all_weaker solid_key solid (λ x. and_right (not (eqb x 61)) (solid x)) e.0 key_bytes

  pub text_solid : all solid e.1 ≡ true
  text_solid = and_right (key_fits e.0) (all solid e.1) h

pub text_clean : (text : Text) → all solid text ≡ true → OnPaper (text_lines [] text)
unfolding text_lines
text_clean text h = within_paper (suc (length text)) [] text tt (solid_clean text h)

pub lines_clean : (es : List Entry) → all_columned es ≡ true → OnPaper (lines_of es)
unfolding lines_of text_lines
lines_clean [] h = tt
lines_clean (e ∷ es) h =
    let c = first_columned e es h in
    paper_append (lines_within (suc (length e.1)) e.0 e.1) (lines_of es)
    (within_paper (suc (length e.1)) e.0 e.1 (solid_clean e.0 (key_solid e c)) (solid_clean e.1 (text_solid e c)))
    (lines_clean es (rest_columned e es h))

-- The lines of an answer

entry_read : (key text : Text) → all solid_key key ≡ true → key_and_text (key ++ 61 ∷ text) ≡ (key, text)
unfolding key_and_text all
entry_read [] text h = refl
entry_read (b ∷ key) text h =
    let i = entry_read key text (and_right (solid_key b) (all solid_key key) h) in
    let j : eqb b 61 ≡ false = not_byte solid_key 61 refl b (and_left (solid_key b) (all solid_key key) h) in
    rw (j, i)

entry_lines_read : (es : List Entry) → all_columned es ≡ true → lines (entry_lines es) ≡ Some (map entry_line es)
unfolding entry_lines lines
entry_lines_read [] h = refl
entry_lines_read (e ∷ es) h =
    let c = first_columned e es h in
    line_read (entry_line e) (clean_append e.0 (61 ∷ e.1) (solid_clean e.0 (key_solid e c)) (refl, solid_clean e.1 (text_solid e c)))
    (entry_lines es) (map entry_line es) (entry_lines_read es (rest_columned e es h))

texts_entries : (es : List Entry) → all_columned es ≡ true → map key_and_text (map entry_line es) ≡ es
texts_entries [] h = refl
texts_entries (e ∷ es) h =
    ap₂ ◌∷◌ (entry_read e.0 e.1 (key_bytes e (first_columned e es h))) (texts_entries es (rest_columned e es h))

-- the entries of lines `key=text` are those
pub entries_read : (es : List Entry) → all_columned es ≡ true → entries (entry_lines es) ≡ es
unfolding entries
entries_read es h = ap (λ (o : Option (List Text)). map key_and_text (otherwise o [])) (entry_lines_read es h) ∙ texts_entries es h

-- the lines that entries take on paper
pub lines_count : (es : List Entry) → length (lines_of es) ≡ line_count es
unfolding lines_of line_count
lines_count [] = refl
lines_count (e ∷ es) =
    let i = lines_count es in
    let j = text_lines_count e.0 e.1 in
    let k = length-append (text_lines e.0 e.1) (lines_of es) in
    omega arith
