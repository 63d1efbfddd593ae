-- What is decided of a sheet that was read as a form is what its kind's function decides; the words that each kind has.
use mathlib.Core.Path.{◌≡◌, sym, ap, ◌∙◌}
use Rattle.std.specs.Prelude.{Option, Some, None, Result, Err}
use Rattle.laws.proofs.Basics.Somes.{some_injective}
use Prim.Native.Nat.{ℕ, ◌≤◌}
use lib.ListN.{length}
use native.Mathlib.Omega.{arith}
use Rattle.rules.specs.Bytes.{Text}
use Rattle.rules.specs.Sheet.{Sheet, asks_sound, read_sheet, words_needed}
use Rattle.rules.specs.Answer.{answer_of}
use Rattle.rules.specs.Call.{given}
use Rattle.rules.specs.declared.Refusal.{Refusal}
use Rattle.rules.specs.declared.Refusal.TheVariants.{UnreadableTerm}
use Rattle.rules.specs.RefusalNumbers.{number_for}
use Rattle.tree.specs.declared.area.Area.{Area}
use Rattle.tree.specs.Areas.{Lent}
use Rattle.sheet.specs.declared.Cursor.{Cursor}
use Rattle.sheet.specs.declared.Place.{Place}
use Rattle.forms.specs.Form.{text_of, sheet_of, EnoughWords, fewest_words}
use Rattle.forms.specs.declared.form.Form.{Form}
use Rattle.forms.specs.declared.form.Form.TheVariants as form
use Rattle.forms.proofs.WalkLaws.{sound_member}
use Rattle.forms.proofs.WordLaws.{bare_words}
use Rattle.variants.specs.Soundness.{OneMember}
use Rattle.admission.specs.Admission.{Decoded}
use Rattle.answers.specs.Deciding.{DecisionIs}
use Rattle.answers.specs.declared.deciding.Lines.{Lines}
use Rattle.answers.proofs.Decides.{decides_as, unreadable_decides}
use Rattle.kinds.specs.Outcomes.{Ready, WordsFor, DecidesForm}

pub lent_then : {a b d : Area} → Lent a b → Lent b d → Lent a d
lent_then g h = record { work = h.work ∙ g.work; sheet = h.sheet ∙ g.sheet }

module _ {a b : Area} where
  -- what is decided of a sheet that was read, by its answer
  pub sheet_decided : {o : Option Sheet} {sheet : Sheet} {t : Option Text} {d : Result Lines Refusal} → o ≡ Some sheet → answer_of sheet ≡ t → Lent a b
      → DecisionIs (given t (number_for UnreadableTerm)) b d → DecidesForm o a b d
  sheet_decided {sheet = sheet} r e l h = record { lent = l; decides = λ other g. decides_as (ap answer_of (some_injective other sheet (sym g ∙ r)) ∙ e) h }

  -- no answer
  pub unread_decided : {o : Option Sheet} {sheet : Sheet} → o ≡ Some sheet → answer_of sheet ≡ None → Lent a b → DecidesForm o a b (Err UnreadableTerm)
  unread_decided r e l = sheet_decided r e l unreadable_decides

  pub form_decided : (s : Text) (f : Form) {d : Result Lines Refusal} → Decoded s f → DecidesForm (read_sheet s) a b d → DecidesForm (sheet_of s f) a b d
  form_decided s f x h = record { lent = h.lent; decides = λ sheet e. h.decides sheet (x.reads ∙ sym x.decodes ∙ e) }

-- the member of a sheet of kind `sound`
pub sound_asked : (s : Text) (t : Place) (c : Cursor) (f : Form) → f ≡ form.Sound t c → Decoded s f → OneMember s c.at
sound_asked s t c f e d =
    let k = sound_member s t c d.sheet (ap (sheet_of s) (sym e) ∙ d.decodes) in
    record { member = k.0; is = k.2 }

pub sound_sheet : (s : Text) (t : Place) (c : Cursor) (o : OneMember s c.at) → sheet_of s (form.Sound t c) ≡ Some (asks_sound (text_of s t) o.member)
unfolding sheet_of
sound_sheet s t c o = rw o.is

-- every kind has the words of what is read and of one step
pub least_words : (s : Text) (f : Form) {n : ℕ} → EnoughWords s f n → fewest_words s ≤ n
unfolding words_needed
least_words s f h = omega arith

-- and those of the sheet
pub words_for : (s : Text) (f : Form) {n : ℕ} → Decoded s f → EnoughWords s f n → WordsFor s n
words_for s f d h sheet r = omega (arith, bare_words s f sheet (d.decodes ∙ sym d.reads ∙ r))

pub form_ready : {a : Area} (f : Form) → a.free ≡ 1 → Decoded a.sheet.now f → EnoughWords a.sheet.now f (length a.work.now) → Ready a
form_ready {a} f e d h = record { no_cells = e; short = d.short; words = least_words a.sheet.now f h }
