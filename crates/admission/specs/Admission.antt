-- What the code answers to a sheet before any term is read. Definitions only.
use Rattle.std.specs.Prelude.{ℕ, ◌≤◌, ◌≡◌, length}
use Rattle.std.specs.Prelude.{Some, Result, MatchResult}
use Rattle.rules.specs.Bytes.{Text}
use Rattle.rules.specs.Sheet.{Sheet, read_sheet, words_needed}
use Rattle.rules.specs.declared.Refusal.{Refusal}
use Rattle.rules.specs.RefusalNumbers.{number_for}
use Rattle.rules.specs.Call.{refused, passed, admitted}
use Rattle.forms.specs.Form.{sheet_of, Within}
use Rattle.forms.specs.declared.form.Form.{Form}
use Rattle.admission.specs.declared.Admitted.{Admitted}

-- the form stands for the sheet that was read
pub record Decoded (s : Text) (f : Form) : Type 0 where
  pub sheet : Sheet
  pub reads : read_sheet s ≡ Some sheet
  pub decodes : sheet_of s f ≡ Some sheet
  pub within : Within s f
  pub short : length s ≤ 65536

-- the form stands for the sheet that is admitted, and needs that many words
pub record Stands (s : Text) (words : ℕ) (f : Form) (needed : ℕ) : Type 0 where
  pub decoded : Decoded s f
  pub passes : admitted s words ≡ passed decoded.sheet
  pub need : needed ≡ words_needed s decoded.sheet
  pub enough : needed ≤ words

abbrev pub Admits : Text → ℕ → Result Admitted Refusal → Type 0
Admits s words r = MatchResult r (λ a. Stands s words a.form a.needed) (λ refusal. admitted s words ≡ refused (number_for refusal))
