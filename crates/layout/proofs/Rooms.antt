-- The room that lines take, and a part of them written: what stays, and that the writer does not pass what is unread.
use Prim.Native.Nat.{ℕ, zero, suc, ◌+◌, ◌-◌, ◌*◌, ◌≤◌}
use mathlib.Core.Path.{◌≡◌, sym, ap, ap₂, ◌∙◌}
use mathlib.Core.Bool.{true}
use mathlib.Core.List.{List, [], ◌∷◌, ◌++◌, append_assoc}
use lib.ListN.{length, take, drop, length-append, length-take, length-drop}
use lib.Seq.{take_at, take-take, drop-drop}
use native.Mathlib.Omega.{arith}
use Rattle.rules.specs.Bytes.{Text}
use Rattle.rules.specs.Names.{all}
use Rattle.rules.specs.Sheet.{Entry}
use Rattle.rules.specs.SheetLines.{ended}
use Rattle.rules.specs.Page.{text_lines, lines_of, heading, paged}
use Rattle.laws.specs.Laying.{solid, all_columned, entry_lines}
use Rattle.laws.proofs.Sheets.Clean.{solid_clean}
use Rattle.laws.proofs.Sheets.PageLines.{OnPaper, paper_append, within_paper, text_lines_count}
use Rattle.laws.proofs.Sheets.Entries.{lines_clean, text_clean}
use Rattle.laws.proofs.Sheets.Pages.{paged_paper, paged_count, ended_length}
use Rattle.laws.proofs.Sheets.Laying.{unread_lines, unread_text}
use Rattle.text.specs.Printing.{printed_over}
use Rattle.text.proofs.Slices.{drop_take}
use Rattle.tree.proofs.Printing.{length_written}
use Rattle.layout.specs.declared.entries.Place.{Place}
use Rattle.sheet.specs.Lines.{part_of}
use Rattle.layout.specs.Places.{laid, Filling}
use Rattle.layout.proofs.Columns.{past_written_from}

-- parts

pub part_on : (from n end : ℕ) (out : Text) → part_of (from + n) end out ≡ drop n (part_of from end out)
part_on from n end out =
    let e : end - (from + n) ≡ end - from - n = omega arith in
    ap₂ take e (sym (drop-drop n from out)) ∙ sym (drop_take n (end - from) (drop from out))

pub part_front : (from n end : ℕ) (out : Text) → n ≤ end - from → take n (drop from out) ≡ take n (part_of from end out)
part_front from n end out h = sym (take-take n (end - from) (drop from out) h)

pub part_length : (from end : ℕ) (out : Text) → end ≤ length out → length (part_of from end out) ≡ end - from
part_length from end out h = simp (length-take, length-drop) (omega arith)

-- bytes written: what is before the place after them, and the lines behind

module _ (out : Text) {v : Text} (at : ℕ) (a : Text) (e : v ≡ printed_over out at a) (h : at + length a ≤ length out) where
  pub written_length : length v ≡ length out
  written_length = ap length e ∙ length_written out at a h

  pub written_before : take (at + length a) v ≡ take at out ++ a
  unfolding printed_over
  written_before =
      let l : length (take at out ++ a) ≡ at + length a = simp (length-append, length-take) (omega arith) in
      ap (take (at + length a)) (e ∙ sym (append_assoc (take at out) a (drop (at + length a) out)))
      ∙ take_at (take at out ++ a) (drop (at + length a) out) (at + length a) l

  pub written_after : (from : ℕ) → at + length a ≤ from → drop from v ≡ drop from out
  written_after from k = ap (drop from) e ∙ past_written_from out a at h from k

-- lines before they are written, at p, and after, at q, where others are left
pub record Step (out v : Text) (end : ℕ) (p q : Place) (ls ms : List Text) : Type 0 where
  pub bytes : Text
  pub filling : Filling out end p ls
  pub split : ended (paged p.left p.number ls) ≡ bytes ++ ended (paged q.left q.number ms)
  pub at : q.at ≡ p.at + length bytes
  pub number : 3650 * q.number ≡ q.at + 73 * q.left + 3650
  pub written : v ≡ printed_over out p.at bytes

module _ {out v : Text} {end : ℕ} {p q : Place} {ls ms : List Text} (s : Step out v end p q ls ms) where
  step_room : p.at + length s.bytes ≤ end
  step_room = let i = s.filling.room in let j = ap length s.split in let k = length-append s.bytes (ended (paged q.left q.number ms)) in omega arith

  step_fit : p.at + length s.bytes ≤ length out
  step_fit = let i = s.filling.inside in let j = step_room in omega arith

  pub step_filling : Filling v end q ms
  step_filling =
      let i = s.filling.room in
      let l = written_length out p.at s.bytes s.written step_fit in
      let j = ap length s.split in
      let k = length-append s.bytes (ended (paged q.left q.number ms)) in
      let m = s.filling.inside in
      let n = s.at in
      record { inside = omega arith; room = omega arith; number = s.number }

  pub step_after : (from : ℕ) → q.at ≤ from → drop from v ≡ drop from out
  step_after from h = written_after out p.at s.bytes s.written step_fit from (omega (arith, s.at))

  pub step_laid : laid v end q ms ≡ laid out end p ls
  unfolding laid
  step_laid =
      let x = ended (paged q.left q.number ms) in
      let d : drop end v ≡ drop end out = written_after out p.at s.bytes s.written step_fit end step_room in
      ap₂ (λ (f r : Text). f ++ (x ++ r)) (ap (λ (n : ℕ). take n v) s.at ∙ written_before out p.at s.bytes s.written step_fit) d
      ∙ append_assoc (take p.at out) s.bytes (x ++ drop end out)
      ∙ ap (λ (y : Text). take p.at out ++ y) (sym (append_assoc s.bytes x (drop end out)) ∙ ap (λ (y : Text). y ++ drop end out) (sym s.split))

-- a heading, and a line
pub heading_paged : (left n : ℕ) (l : Text) (ls : List Text) → left ≡ 0 → ended (paged left n (l ∷ ls)) ≡ (heading n ++ 10 ∷ []) ++ ended (paged 49 (n + 1) (l ∷ ls))
unfolding paged ended
heading_paged zero n l ls e = ap (λ (k : ℕ). heading n ++ (10 ∷ (l ++ (10 ∷ ended (paged 48 k ls))))) (let f : suc n ≡ n + 1 = omega arith in f) ∙ sym (append_assoc (heading n) (10 ∷ []) (l ++ (10 ∷ ended (paged 48 (n + 1) ls))))
heading_paged (suc left) n l ls e = absurd (omega arith)

pub line_paged : (left n : ℕ) (l : Text) (ls : List Text) → 1 ≤ left → ended (paged left n (l ∷ ls)) ≡ (l ++ 10 ∷ []) ++ ended (paged (left - 1) n ls)
unfolding paged ended
line_paged zero n l ls h = absurd (omega arith)
line_paged (suc left) n l ls h =
    let e : left ≡ suc left - 1 = omega arith in
    sym (append_assoc l (10 ∷ []) (ended (paged left n ls))) ∙ ap (λ (k : ℕ). (l ++ 10 ∷ []) ++ ended (paged k n ls)) e

-- a key takes no room of its own
paged_length : (left n : ℕ) (ls ms : List Text) → OnPaper ls → OnPaper ms → length ls ≡ length ms → length (ended (paged left n ls)) ≡ length (ended (paged left n ms))
paged_length left n ls ms h k e =
    let i = ended_length (paged left n ls) (paged_paper left n ls h) in
    let j = ended_length (paged left n ms) (paged_paper left n ms k) in
    let a = paged_count left n ls in
    let b = paged_count left n ms in
    omega arith

named_clean : (key text : Text) → all solid key ≡ true → all solid text ≡ true → OnPaper (text_lines key text)
unfolding text_lines
named_clean key text h k = within_paper (suc (length text)) key text (solid_clean key h) (solid_clean text k)

-- the writer does not pass what is unread
module _ {out : Text} {end : ℕ} {p : Place} (es : List Entry) (h : all_columned es ≡ true) where
  pub lines_behind : Filling out end p (lines_of es) → p.from ≤ end → length (entry_lines es) ≡ end - p.from → p.at ≤ p.from
  lines_behind s r e = let i = unread_lines p.left p.number es h in let j = s.room in omega arith

  pub text_behind : (key text : Text) → all solid key ≡ true → all solid text ≡ true → Filling out end p (text_lines key text ++ lines_of es) → p.from ≤ end
      → length (text ++ 10 ∷ entry_lines es) ≡ end - p.from → p.at + 9 ≤ p.from
  text_behind key text k t s r e =
      let i = unread_text p.left p.number es h text t in
      let j = s.room in
      let a = paper_append (text_lines key text) (lines_of es) (named_clean key text k t) (lines_clean es h) in
      let b = paper_append (text_lines [] text) (lines_of es) (text_clean text t) (lines_clean es h) in
      let c = length-append (text_lines key text) (lines_of es) in
      let d = length-append (text_lines [] text) (lines_of es) in
      let f = text_lines_count key text in
      let g = text_lines_count [] text in
      let l = paged_length p.left p.number (text_lines key text ++ lines_of es) (text_lines [] text ++ lines_of es) a b (omega arith) in
      omega arith
