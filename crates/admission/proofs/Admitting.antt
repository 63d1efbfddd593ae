-- What the definition of admission gives on each of its conditions.
use mathlib.Core.Path.{◌≡◌, refl, sym, ◌∙◌}
use mathlib.Core.Bool.{Bool, true, false, cond}
use Rattle.std.specs.Prelude.{Some, None, Result, Ok, Err}
use Prim.Native.Nat.{ℕ, ◌<◌, ◌≤◌}
use native.Mathlib.Omega.{arith}
use lib.Dec.{leb}
use lib.ListN.{length}
use borrow.Author.Tests.{le-leb, lt-leb, leb-true, leb-false}
use Rattle.rules.specs.Bytes.{Text}
use Rattle.rules.specs.Names.{all}
use Rattle.rules.specs.Sheet.{Sheet, read_sheet, words_needed}
use Rattle.rules.specs.declared.Refusal.{Refusal}
use Rattle.rules.specs.declared.Refusal.TheVariants.{TooLong, ForeignByte, LineOutOfPlace, ShortWorkArea}
use Rattle.rules.specs.RefusalNumbers.{number_for}
use Rattle.rules.specs.Call.{plain, refused, passed, admitted}
use Rattle.laws.proofs.Sheets.Refusals.{refuses_too_long, refuses_foreign_byte}
use Rattle.text.specs.Screen.{screened}
use Rattle.forms.specs.Form.{FormStands, bare_sheet}
use Rattle.forms.specs.declared.form.Form.{Form}
use Rattle.forms.proofs.WordLaws.{bare_words}
use Rattle.admission.specs.Admission.{Stands}

-- a sheet that was screened is short, and of plain bytes
record Fine (s : Text) : Type 0 where
  short : length s ≤ 65536
  plain_bytes : all plain s ≡ true

fine : (s : Text) → Ok tt ≡ screened s → Fine s
unfolding screened
fine s e = go (leb (length s) 65536) refl (all plain s) refl e
  where
    go : (a : Bool) → leb (length s) 65536 ≡ a → (b : Bool) → all plain s ≡ b → ◌≡◌ {A = Result (Unit {0}) Refusal} (Ok tt) (cond a (cond b (Ok tt) (Err ForeignByte)) (Err TooLong)) → Fine s
    go true k true g e = record { short = leb-true (length s) 65536 k; plain_bytes = g }
    go true k false g e = cc
    go false k b g e = cc

pub short : (s : Text) → Ok tt ≡ screened s → length s ≤ 65536
short s e = (fine s e).short

module _ (s : Text) (words : ℕ) where
  -- one that was not is refused by 1 or 2
  pub foreign : (x : Refusal) → Err x ≡ screened s → admitted s words ≡ refused (number_for x)
  unfolding screened
  foreign x e = go (leb (length s) 65536) refl (all plain s) refl e
    where
      go : (a : Bool) → leb (length s) 65536 ≡ a → (b : Bool) → all plain s ≡ b → ◌≡◌ {A = Result (Unit {0}) Refusal} (Err x) (cond a (cond b (Ok tt) (Err ForeignByte)) (Err TooLong)) → admitted s words ≡ refused (number_for x)
      go true k true g e = cc
      go true k false g e = let z : x ≡ ForeignByte = cc in rw z (refuses_foreign_byte s words (leb-true (length s) 65536 k) g)
      go false k b g e = let z : x ≡ TooLong = cc in rw z (refuses_too_long s words (leb-false (length s) 65536 k))

  module _ (e : Ok tt ≡ screened s) where
    pub unread : read_sheet s ≡ None → admitted s words ≡ refused (number_for LineOutOfPlace)
    unfolding admitted
    unread r = let f = fine s e in rw (le-leb (length s) 65536 f.short, f.plain_bytes, r)

    few_words : (sheet : Sheet) → read_sheet s ≡ Some sheet → words < words_needed s sheet → admitted s words ≡ refused (number_for ShortWorkArea)
    unfolding admitted
    few_words sheet r h = let f = fine s e in rw (le-leb (length s) 65536 f.short, f.plain_bytes, r, lt-leb (words_needed s sheet) words h)

    passes : (sheet : Sheet) → read_sheet s ≡ Some sheet → words_needed s sheet ≤ words → admitted s words ≡ passed sheet
    unfolding admitted
    passes sheet r h = let f = fine s e in rw (le-leb (length s) 65536 f.short, f.plain_bytes, r, le-leb (words_needed s sheet) words h)

    -- a sheet that was read as a form, against the words that it needs
    module _ (f : Form) (r : FormStands s (read_sheet s) f) (n : ℕ) (q : n ≡ words_needed s (bare_sheet s f)) where
      need : n ≡ words_needed s r.sheet
      need = q ∙ sym (bare_words s f r.sheet r.decodes)

      pub refuses_words : words < n → admitted s words ≡ refused (number_for ShortWorkArea)
      refuses_words g = few_words r.sheet r.reads (omega (arith, need))

      pub stands : n ≤ words → Stands s words f n
      stands g = record {
        decoded = record { sheet = r.sheet; reads = r.reads; decodes = r.decodes; within = r.within; short = short s e };
        passes = passes r.sheet r.reads (omega (arith, need));
        need = need;
        enough = g;
      }

-- what the proof of admission uses
pub ruleset admits = (short, foreign, unread)
