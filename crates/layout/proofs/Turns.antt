-- A turn of the loop that lays out an entry: the heading, where a page begins, and a line of its text.
use Prim.Native.Nat.{ℕ, zero, suc, ◌+◌, ◌-◌, ◌<◌, ◌≤◌}
use mathlib.Core.Path.{◌≡◌, refl, sym, ap, ap₂, ◌∙◌}
use mathlib.Core.Bool.{true}
use mathlib.Core.List.{List, [], ◌∷◌, ◌++◌}
use lib.ListN.{length, take, drop, length-append, length-drop}
use lib.Seq.{take_all, take-append-le, drop-append-le, drop-append-add}
use native.Mathlib.Omega.{arith}
use native.Mathlib.Decide.{dec_lt}
use Rattle.rules.specs.Bytes.{Text}
use Rattle.rules.specs.Names.{all}
use Rattle.rules.specs.Sheet.{Entry}
use Rattle.rules.specs.SheetLines.{ended}
use Rattle.rules.specs.Page.{columns, page_line, below, text_lines, lines_of, heading, paged, entries}
use Rattle.laws.specs.Laying.{solid, all_columned, entry_lines}
use Rattle.laws.proofs.Basics.Bytes.{all_drop}
use Rattle.laws.proofs.Sheets.PageLines.{page_line_length, heading_length, text_lines_next}
use Rattle.laws.proofs.Sheets.Entries.{entries_read}
use Rattle.text.specs.Printing.{printed_over}
use Rattle.layout.specs.declared.entries.Place.{Place}
use Rattle.sheet.specs.Lines.{part_of}
use Rattle.layout.specs.Places.{laid, laid_out, Filling, Unread, HeadingRoom, Headed}
use Rattle.layout.proofs.Rooms.{part_on, part_front, part_length, Step, step_filling, step_after, step_laid, heading_paged, line_paged, lines_behind, text_behind}

-- what is unread is the rest of a text, of so many bytes, and entries; the key, of so many bytes, stands before the byte before it
pub record InText (whole out : Text) (end : ℕ) (p : Place) (key rest : ℕ) : Type 0 where
  pub name : Text
  pub text : Text
  pub fields : List Entry
  pub reader : p.from + rest < end
  pub before : key < p.from
  pub short : key ≤ 8
  pub key_is : take key (drop (p.from - 1 - key) out) ≡ name
  pub key_solid : all solid name ≡ true
  pub rest_is : length text ≡ rest
  pub listed : part_of p.from end out ≡ text ++ 10 ∷ entry_lines fields
  pub text_solid : all solid text ≡ true
  pub fit : all_columned fields ≡ true
  pub filling : Filling out end p (text_lines name text ++ lines_of fields)
  pub laid_is : laid out end p (text_lines name text ++ lines_of fields) ≡ whole

-- what is laid out when what is unread is entries
pub laid_out_is : (out : Text) (end : ℕ) (p : Place) (es : List Entry) → all_columned es ≡ true → part_of p.from end out ≡ entry_lines es → laid_out out end p ≡ laid out end p (lines_of es)
unfolding laid_out
laid_out_is out end p es h e = ap (λ (s : Text). laid out end p (lines_of (entries s))) e ∙ ap (λ (fs : List Entry). laid out end p (lines_of fs)) (entries_read es h)

-- the first line of a text, and those after it
abbrev lines_after : Text → List Entry → List Text
lines_after text es = below (λ rest. text_lines [] rest) (drop 63 text) ++ lines_of es

first_line : (key text : Text) (es : List Entry) → text_lines key text ++ lines_of es ≡ page_line key text ∷ lines_after text es
first_line key text es = ap (λ (ls : List Text). ls ++ lines_of es) (text_lines_next key text)

below_some : (f : Text → List Text) (s : Text) → 1 ≤ length s → below f s ≡ f s
below_some f [] h = absurd (omega arith)
below_some f (b ∷ s) h = refl

below_none : (f : Text → List Text) (s : Text) → length s ≡ 0 → below f s ≡ []
below_none f [] h = refl
below_none f (b ∷ s) h = absurd (omega arith)

columns_take : (n : ℕ) (s : Text) → columns n (take n s) ≡ columns n s
unfolding columns
columns_take zero s = refl
columns_take (suc n) [] = refl
columns_take (suc n) (b ∷ s) = ap (λ (t : Text). b ∷ t) (columns_take n s)

-- the bytes that one line takes
columns_first : (s : Text) (count : ℕ) → count ≤ 63 → count ≤ length s → (length s ≤ 63 → count ≡ length s) → (63 ≤ length s → count ≡ 63) → columns 63 (take count s) ≡ columns 63 s
columns_first s count h k f g = elim (dec_lt (length s) 63) [
  | yes l ↦ let e = f (omega arith) in ap (columns 63) (take_all count s (omega arith))
  | no l ↦ let e = g (omega arith) in ap (λ (n : ℕ). columns 63 (take n s)) e ∙ columns_take 63 s
]

-- a line still to be written, with or without a heading, has room
one_line : (at end left n : ℕ) (l : Text) (ls : List Text) → length l ≡ 72 → at + length (ended (paged left n (l ∷ ls))) ≡ end → at + 73 ≤ end
unfolding paged ended
one_line at end zero n l ls h e =
    let i = length-append (heading n) (10 ∷ (l ++ (10 ∷ ended (paged 48 (suc n) ls)))) in
    let j = heading_length n in
    omega arith
one_line at end (suc left) n l ls h e = let i = length-append l (10 ∷ ended (paged left n ls)) in omega arith

module _ {whole out : Text} {end : ℕ} {p : Place} {key rest : ℕ} (t : InText whole out end p key rest) where
  unread_length : length (t.text ++ 10 ∷ entry_lines t.fields) ≡ end - p.from
  unread_length = sym (ap length t.listed) ∙ part_length p.from end out t.filling.inside

  pub writer_behind : p.at + 9 ≤ p.from
  writer_behind = let r = t.reader in text_behind t.fields t.fit t.name t.text t.key_solid t.text_solid t.filling (omega arith) unread_length

  pub line_room : p.at + 73 ≤ end
  line_room =
      let e = t.filling.room in
      let r = t.reader in
      let w = writer_behind in
      let a = ap (λ (ls : List Text). length (ended (paged p.left p.number ls))) (first_line t.name t.text t.fields) in
      one_line p.at end p.left p.number (page_line t.name t.text) (lines_after t.text t.fields) (page_line_length t.name t.text) (omega arith)

  pub heading_room : HeadingRoom out p
  heading_room = let i = line_room in let s = t.filling in record { room = λ e. omega arith; number = λ e. omega arith }

  module _ {v : Text} {q : Place} (h : Headed out v p q) where
    heading_step : p.left ≡ 0 → Step out v end p q (text_lines t.name t.text ++ lines_of t.fields) (text_lines t.name t.text ++ lines_of t.fields)
    heading_step e =
        let f = first_line t.name t.text t.fields in
        let i = h.at e in
        let j = h.left e in
        let k = h.number e in
        let l = heading_length p.number in
        let m = t.filling.number in
        record {
          bytes = heading p.number ++ 10 ∷ [];
          filling = t.filling;
          split =
              ap (λ (ls : List Text). ended (paged p.left p.number ls)) f
              ∙ heading_paged p.left p.number (page_line t.name t.text) (lines_after t.text t.fields) e
              ∙ ap (λ (ls : List Text). (heading p.number ++ 10 ∷ []) ++ ended (paged 49 (p.number + 1) ls)) (sym f)
              ∙ sym (ap₂ (λ (x y : ℕ). (heading p.number ++ 10 ∷ []) ++ ended (paged x y (text_lines t.name t.text ++ lines_of t.fields))) j k);
          at = omega (arith, length-append (heading p.number) (10 ∷ []));
          number = omega arith;
          written = h.written e;
        }

    with_heading : p.left ≡ 0 → InText whole v end q key rest
    with_heading e =
        let s = heading_step e in
        let r = t.reader in
        let f = h.reader in
        let b = t.before in
        let c = t.short in
        let w = text_behind t.fields t.fit t.name t.text t.key_solid t.text_solid (step_filling s) (omega arith) (omega (arith, unread_length)) in
        record {
          name = t.name;
          text = t.text;
          fields = t.fields;
          reader = omega arith;
          before = omega arith;
          short = c;
          key_is = ap (take key) (step_after s (q.from - 1 - key) (omega arith)) ∙ ap (λ (n : ℕ). take key (drop (n - 1 - key) out)) f ∙ t.key_is;
          key_solid = t.key_solid;
          rest_is = t.rest_is;
          listed = ap (take (end - q.from)) (step_after s q.from (omega arith)) ∙ ap (λ (n : ℕ). part_of n end out) f ∙ t.listed;
          text_solid = t.text_solid;
          fit = t.fit;
          filling = step_filling s;
          laid_is = step_laid s ∙ t.laid_is;
        }

    pub headed : InText whole v end q key rest
    headed = elim (dec_lt 0 p.left) [
      | yes l ↦ let e = h.kept l in let f = h.same l in rw (e, f) t
      | no l ↦ with_heading (omega arith)
    ]

    pub headed_left : 1 ≤ q.left
    headed_left = elim (dec_lt 0 p.left) [
      | yes l ↦ let f = h.same l in omega (arith, ap (λ (x : Place). x.left) f)
      | no l ↦ omega (arith, h.left (omega arith))
    ]

  -- a line of the text, with so many bytes of it
  module _ {v : Text} (q : Place) {count : ℕ} (left : 1 ≤ p.left) (low : count ≤ 63) (within : count ≤ rest) (last : rest ≤ 63 → count ≡ rest) (full : 63 ≤ rest → count ≡ 63)
      (w : v ≡ printed_over out p.at (page_line (take key (drop (p.from - 1 - key) out)) (take count (drop p.from out)) ++ 10 ∷ []))
      (at : q.at ≡ p.at + 73) (fewer : q.left ≡ p.left - 1) (number : q.number ≡ p.number) where
    text_part : take count (drop p.from out) ≡ take count t.text
    text_part =
        let r = t.reader in
        let l = t.rest_is in
        part_front p.from count end out (omega arith) ∙ ap (take count) t.listed ∙ take-append-le count t.text (10 ∷ entry_lines t.fields) (omega arith)

    line_is : page_line (take key (drop (p.from - 1 - key) out)) (take count (drop p.from out)) ≡ page_line t.name t.text
    unfolding page_line
    line_is =
        let l = t.rest_is in
        ap₂ (λ (a b : Text). columns 9 a ++ b) t.key_is
        (ap (columns 63) text_part ∙ columns_first t.text count low (omega arith) (λ h. (let e = last (omega arith) in omega arith)) (λ h. full (omega arith)))

    line_step : Step out v end p q (text_lines t.name t.text ++ lines_of t.fields) (lines_after t.text t.fields)
    line_step =
        let l = page_line_length t.name t.text in
        let m = t.filling.number in
        record {
          bytes = page_line t.name t.text ++ 10 ∷ [];
          filling = t.filling;
          split =
              ap (λ (ls : List Text). ended (paged p.left p.number ls)) (first_line t.name t.text t.fields)
              ∙ line_paged p.left p.number (page_line t.name t.text) (lines_after t.text t.fields) left
              ∙ sym (ap₂ (λ (x y : ℕ). (page_line t.name t.text ++ 10 ∷ []) ++ ended (paged x y (lines_after t.text t.fields))) fewer number);
          at = omega (arith, length-append (page_line t.name t.text) (10 ∷ []));
          number = omega arith;
          written = w ∙ ap (λ (l : Text). printed_over out p.at (l ++ 10 ∷ [])) line_is;
        }

    -- more of it is left
    module _ {r : ℕ} (from : q.from ≡ p.from + count) (e : r ≡ rest - count) (some : ¬ (r ≡ 0)) where
      long : 63 < rest
      long = elim (dec_lt 63 rest) [
        | yes l ↦ l
        | no l ↦ absurd (some (let f = last (omega arith) in omega arith))
      ]

      after_is : lines_after t.text t.fields ≡ text_lines [] (drop 63 t.text) ++ lines_of t.fields
      after_is =
          let l = t.rest_is in
          let m = long in
          ap (λ (ls : List Text). ls ++ lines_of t.fields) (below_some (λ s. text_lines [] s) (drop 63 t.text) (omega (arith, length-drop 63 t.text)))

      more_filling : Filling v end q (text_lines [] (drop 63 t.text) ++ lines_of t.fields)
      more_filling = rw (← after_is) (step_filling line_step)

      rest_listed : part_of q.from end out ≡ drop 63 t.text ++ 10 ∷ entry_lines t.fields
      rest_listed =
          let c : count ≡ 63 = full (let l = long in omega arith) in
          let l = long in
          let m = t.rest_is in
          ap (λ (n : ℕ). part_of n end out) from ∙ part_on p.from count end out ∙ ap₂ drop c t.listed ∙ drop-append-le 63 t.text (10 ∷ entry_lines t.fields) (omega arith)

      no_name : all solid [] ≡ true
      unfolding all
      no_name = refl

      rest_solid : all solid (drop 63 t.text) ≡ true
      rest_solid = all_drop solid 63 t.text t.text_solid

      pub line_more : InText whole v end q 0 r
      line_more =
          let c = full (let l = long in omega arith) in
          let l = long in
          let m = t.rest_is in
          let d = t.reader in
          let o = t.filling.inside in
          let u : length (drop 63 t.text ++ 10 ∷ entry_lines t.fields) ≡ end - q.from = sym (ap length rest_listed) ∙ part_length q.from end out o in
          let b = text_behind t.fields t.fit [] (drop 63 t.text) no_name rest_solid more_filling (omega arith) u in
          record {
            name = [];
            text = drop 63 t.text;
            fields = t.fields;
            reader = omega arith;
            before = omega arith;
            short = omega arith;
            key_is = refl;
            key_solid = no_name;
            rest_is = omega (arith, length-drop 63 t.text);
            listed = ap (take (end - q.from)) (step_after line_step q.from (omega arith)) ∙ rest_listed;
            text_solid = rest_solid;
            fit = t.fit;
            filling = more_filling;
            laid_is = ap (laid v end q) (sym after_is) ∙ step_laid line_step ∙ t.laid_is;
          }

    -- it is all written, and the reader stands after byte 10
    module _ (from : q.from ≡ p.from + count + 1) (e : rest - count ≡ 0) where
      done_is : lines_after t.text t.fields ≡ lines_of t.fields
      done_is =
          let l = t.rest_is in
          ap (λ (ls : List Text). ls ++ lines_of t.fields) (below_none (λ s. text_lines [] s) (drop 63 t.text) (omega (arith, length-drop 63 t.text)))

      done_filling : Filling v end q (lines_of t.fields)
      done_filling = rw (← done_is) (step_filling line_step)

      done_listed : part_of q.from end out ≡ entry_lines t.fields
      done_listed =
          let l = t.rest_is in
          let c : q.from ≡ p.from + (length t.text + 1) = omega arith in
          ap (λ (n : ℕ). part_of n end out) c ∙ part_on p.from (length t.text + 1) end out ∙ ap (drop (length t.text + 1)) t.listed
          ∙ drop-append-add t.text (10 ∷ entry_lines t.fields) 1

      done_after : part_of q.from end v ≡ entry_lines t.fields
      done_after =
          let d = t.reader in
          let u : length (entry_lines t.fields) ≡ end - q.from = sym (ap length done_listed) ∙ part_length q.from end out t.filling.inside in
          ap (take (end - q.from)) (step_after line_step q.from (lines_behind t.fields t.fit done_filling (omega arith) u)) ∙ done_listed

      pub line_done : Unread v end q
      line_done = let d = t.reader in record { fields = t.fields; reader = omega arith; listed = done_after; fit = t.fit; filling = done_filling }

      pub line_laid : laid_out v end q ≡ whole
      line_laid = laid_out_is v end q t.fields t.fit done_after ∙ ap (laid v end q) (sym done_is) ∙ step_laid line_step ∙ t.laid_is
