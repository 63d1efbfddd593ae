-- The answer to a sheet of kind `sound`, by what is claimed of its member.
use mathlib.Core.Path.{◌≡◌, sym, ap, ◌∙◌}
use mathlib.Core.Bool.{Bool}
use mathlib.Core.List.{[], ◌∷◌}
use Rattle.std.specs.Prelude.{Option, Some, Ok, Err}
use Prim.Native.Nat.{ℕ}
use Rattle.rules.specs.Bytes.{Text}
use Rattle.rules.specs.Text.{bytes}
use Rattle.rules.specs.Maybe.{◌>>=◌}
use Rattle.rules.specs.Tree.{Tree}
use Rattle.rules.specs.Reading.{parse}
use Rattle.rules.specs.Sheet.{Member, asks_sound}
use Rattle.rules.specs.Variants.{sound}
use Rattle.rules.specs.Answer.{line, claim, answer_of}
use Rattle.rules.specs.declared.Refusal.TheVariants.{UnreadableTerm}
use Rattle.tree.specs.declared.area.Area.{Area}
use Rattle.tree.specs.Spelled.{text_in}
use Rattle.sheet.specs.declared.Cursor.{Cursor}
use Rattle.sheet.specs.declared.Place.{Place}
use Rattle.forms.specs.Form.{sheet_of}
use Rattle.forms.specs.Members.{members_at}
use Rattle.forms.specs.declared.form.Form.TheVariants as form
use Rattle.reading.specs.Areas.{Reads, UnreadIn}
use Rattle.variants.specs.Soundness.{OneMember}
use Rattle.variants.specs.Areas.{ClaimsSoundIn}
use Rattle.answers.specs.declared.deciding.Key.TheVariants as key
use Rattle.answers.specs.declared.deciding.Lines.TheVariants.{Claim}
use Rattle.answers.proofs.Decides.{claim_decides}
use Rattle.kinds.specs.Outcomes.{DecidesForm}
use Rattle.kinds.proofs.KindLaws.{sheet_decided, unread_decided, lent_then, sound_sheet}

-- the answer, by what the term reads as
sound_answer : (t : Text) (m : Member) {o : Option Tree} → parse t ≡ o → answer_of (asks_sound t m) ≡ (o >>= λ u. Some (line (bytes "sound=") (claim (sound u m))))
unfolding answer_of
sound_answer t m e = ap (λ (o : Option Tree). o >>= λ u. Some (line (bytes "sound=") (claim (sound u m)))) e

module _ {a b : Area} {t : Place} {c : Cursor} (k : OneMember a.sheet.now c.at) where
  pub sound_unread : UnreadIn a b t → DecidesForm (sheet_of a.sheet.now (form.Sound t c)) a b (Err UnreadableTerm)
  sound_unread h = unread_decided (sound_sheet a.sheet.now t c k) (sound_answer (text_in a t) k.member h.unread) h.lent

  module _ {i : ℕ} (h : Reads a b t i) where
    there : members_at b.sheet.now c.at ≡ Some (k.member ∷ [])
    there = ap (λ x. members_at x.now c.at) h.lent.sheet ∙ k.is

    pub sound_decided : {d : Area} {r : Option Bool} → ClaimsSoundIn b d i c.at r → DecidesForm (sheet_of a.sheet.now (form.Sound t c)) a d (Ok (Claim key.Sound r))
    sound_decided {d} {r} g =
        sheet_decided (sound_sheet a.sheet.now t c k)
        (sound_answer (text_in a t) k.member h.reads ∙ ap (λ (o : Option Bool). Some (line (bytes "sound=") (claim o))) (sym (g.0 k.member there)))
        (lent_then h.lent g.1.lent)
        (claim_decides key.Sound r)
