-- The answer to a sheet of kind `complete`: what its term and members are, and what is claimed of them.
use mathlib.Core.Path.{◌≡◌, sym, ap, subst, ◌∙◌}
use mathlib.Core.Bool.{Bool}
use mathlib.Core.List.{List}
use Rattle.std.specs.Prelude.{Ok, Option, Some, Err}
use Prim.Native.Nat.{ℕ}
use Rattle.rules.specs.Bytes.{Text}
use Rattle.rules.specs.Text.{bytes}
use Rattle.rules.specs.Maybe.{◌>>=◌}
use Rattle.rules.specs.Tree.{Tree}
use Rattle.rules.specs.Reading.{parse}
use Rattle.rules.specs.Sheet.{Member, asks_complete, read_sheet}
use Rattle.rules.specs.Variants.{complete}
use Rattle.rules.specs.Answer.{line, claim, answer_of}
use Rattle.forms.specs.Members.{members_at}
use Rattle.forms.specs.Form.{sheet_of, Within}
use Rattle.sheet.specs.declared.Cursor.{Cursor}
use Rattle.sheet.specs.declared.Place.{Place}
use Rattle.forms.specs.declared.form.Form.{Form}
use Rattle.forms.specs.declared.form.Form.TheVariants as form
use Rattle.forms.proofs.WalkLaws.{complete_members}
use Rattle.tree.specs.declared.area.Area.{Area}
use Rattle.tree.specs.Spelled.{text_in}
use Rattle.reading.specs.Areas.{Reads, UnreadIn}
use Rattle.complete.specs.Areas.{ClaimsCompleteIn}
use Rattle.admission.specs.Admission.{Decoded}
use Rattle.kinds.specs.Outcomes.{DecidesForm}
use Rattle.kinds.specs.Outcomes.{CompleteAsked}
use Rattle.answers.specs.declared.deciding.Key.TheVariants as key
use Rattle.answers.specs.declared.deciding.Lines.TheVariants.{Claim}
use Rattle.rules.specs.declared.Refusal.TheVariants.{UnreadableTerm}
use Rattle.answers.proofs.Decides.{claim_decides}
use Rattle.kinds.proofs.KindLaws.{sheet_decided, unread_decided, lent_then}

pub complete_asked : (s : Text) (t : Place) (c : Cursor) (f : Form) → f ≡ form.Complete t c → Decoded s f → CompleteAsked s t c.at
complete_asked s t c f e h =
    let (ms, g, there) = complete_members s t c h.sheet (ap (sheet_of s) (sym e) ∙ h.decodes) in
    let w = subst (Within s) e h.within in
    record { members = ms; reads = h.reads ∙ ap Some g; later = there; short = h.short; placed = w.0; follows = w.1; inside = w.2 }

-- the answer, by what the term reads as
complete_answer : (t : Text) (ms : List Member) {o : Option Tree} → parse t ≡ o
    → answer_of (asks_complete t ms) ≡ (o >>= λ u. Some (line (bytes "complete=") (claim (complete u ms))))
unfolding answer_of
complete_answer t ms e = ap (λ (o : Option Tree). o >>= λ u. Some (line (bytes "complete=") (claim (complete u ms)))) e

module _ {a b : Area} {t : Place} {at : ℕ} (k : CompleteAsked a.sheet.now t at) where
  pub complete_unread : UnreadIn a b t → DecidesForm (read_sheet a.sheet.now) a b (Err UnreadableTerm)
  complete_unread h = unread_decided k.reads (complete_answer (text_in a t) k.members h.unread) h.lent

  module _ {i : ℕ} (empty : a.free ≡ 1) (h : Reads a b t i) where
    pub complete_decided : {d : Area} {c : Option Bool} → ClaimsCompleteIn b d i at c → DecidesForm (read_sheet a.sheet.now) a d (Ok (Claim key.Complete c))
    complete_decided {d} {c} g =
        let l = ap (λ (s : Text). members_at s at) (ap (λ x. x.now) h.lent.sheet) ∙ k.later in
        sheet_decided k.reads
        (complete_answer (text_in a t) k.members h.reads ∙ ap (λ (o : Option Bool). Some (line (bytes "complete=") (claim o))) (sym (g.claim k.members l)))
        (lent_then h.lent g.grows.lent)
        (claim_decides key.Complete c)
