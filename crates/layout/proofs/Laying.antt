-- The whole layout: where it begins, and the blank lines at its end.
use Prim.Native.Nat.{ℕ, ◌+◌, ◌*◌, ◌≤◌}
use mathlib.Core.Path.{◌≡◌, refl, sym, ap, ◌∙◌}
use mathlib.Core.List.{List, [], ◌∷◌, ◌++◌}
use lib.ListN.{length, take, drop, replicate, length-append}
use native.Mathlib.Omega.{arith}
use Rattle.rules.specs.Bytes.{Text}
use Rattle.rules.specs.Sheet.{Entry}
use Rattle.rules.specs.SheetLines.{ended}
use Rattle.rules.specs.Page.{page_line, lines_of, paged, page_lines, page_count, page}
use Rattle.laws.specs.Laying.{entry_line, entry_lines, Columned}
use Rattle.laws.proofs.Sheets.Pages.{answer_entries, page_length}
use Rattle.text.specs.Printing.{printed_over}
use Rattle.layout.specs.declared.entries.Place.{Place}
use Rattle.sheet.specs.Lines.{part_of}
use Rattle.layout.specs.Places.{laid, laid_out, Unread}
use Rattle.layout.proofs.Columns.{blanks_length}
use Rattle.layout.proofs.Rooms.{part_length}
use Rattle.layout.proofs.Turns.{laid_out_is}

-- where it begins
abbrev pub origin : ℕ → Place
origin start = record { at = 0; from = start; left = 0; number = 1 }

module _ (out : Text) (start end : ℕ) (s : start ≤ end) (a : Columned (part_of start end out)) where
  pub begun_laid : laid_out out end (origin start) ≡ page (part_of start end out) ++ drop end out
  unfolding laid_out laid page page_lines
  begun_laid = refl

  pub begun : {pages : ℕ} → end ≤ length out → end ≡ 3650 * pages → pages ≡ page_count (part_of start end out) → Unread out end (origin start)
  unfolding page page_lines
  begun room e count =
      let l = page_length (part_of start end out) a in
      let f = ap (λ (es : List Entry). length (ended (paged 0 1 (lines_of es)))) (answer_entries (part_of start end out) a) in
      record { fields = a.fields; reader = s; listed = a.listed; fit = a.fit; filling = record { inside = room; room = omega arith; number = refl } }

-- where nothing is unread
module _ {out : Text} {end : ℕ} {p : Place} (u : Unread out end p) (e : end ≤ p.from) where
  none_left : u.fields ≡ []
  unfolding entry_lines ended
  none_left = go u.fields u.listed
    where
      go : (es : List Entry) → part_of p.from end out ≡ entry_lines es → es ≡ []
      go [] f = refl
      go (x ∷ es) f =
          let i = part_length p.from end out u.filling.inside in
          let j = ap length f in
          let k = length-append (entry_line x) (10 ∷ entry_lines es) in
          absurd (omega arith)

  pub blanks_end : p.at + 73 * p.left ≡ end
  unfolding lines_of paged
  blanks_end =
      let i = u.filling.room in
      let j = ap (λ (es : List Entry). length (ended (paged p.left p.number (lines_of es)))) none_left in
      let k = blanks_length p.left in
      omega arith

  pub blanks_laid : {v : Text} → v ≡ printed_over out p.at (ended (replicate p.left (page_line [] []))) → v ≡ laid_out out end p
  unfolding lines_of paged laid printed_over
  blanks_laid f =
      let k = blanks_length p.left in
      let n : p.at + length (ended (replicate p.left (page_line [] []))) ≡ end = let i = blanks_end in omega arith in
      f ∙ ap (λ (i : ℕ). take p.at out ++ (ended (replicate p.left (page_line [] [])) ++ drop i out)) n
      ∙ sym (laid_out_is out end p u.fields u.fit u.listed ∙ ap (λ (es : List Entry). laid out end p (lines_of es)) none_left)
