-- The answer to a sheet of kind `equal`, by what the comparison of its texts says.
use mathlib.Core.Path.{◌≡◌, refl, sym, ap, ap₂, ◌∙◌}
use mathlib.Core.Bool.{Bool}
use Rattle.std.specs.Prelude.{Option, Some, None, Ok, Err}
use Prim.Native.Nat.{ℕ, ◌-◌}
use lib.ListN.{take, drop}
use lib.Seq.{slice}
use Rattle.rules.specs.Bytes.{Text, same}
use Rattle.rules.specs.Text.{bytes}
use Rattle.rules.specs.Maybe.{◌>>=◌}
use Rattle.rules.specs.Reading.{canonical_text}
use Rattle.rules.specs.Sheet.{asks_equal}
use Rattle.rules.specs.Answer.{line, claim, answer_of}
use Rattle.text.proofs.Slices.{drop_take}
use Rattle.certificate.specs.Comparing.{equivalence_of}
use Rattle.rules.specs.declared.Refusal.TheVariants.{UnreadableTerm}
use Rattle.tree.specs.declared.area.Area.{Area}
use Rattle.tree.specs.Areas.{Lent}
use Rattle.sheet.specs.declared.Place.{Place}
use Rattle.forms.specs.Form.{sheet_of}
use Rattle.forms.specs.declared.form.Form.TheVariants as form
use Rattle.answers.specs.declared.deciding.Key.TheVariants as key
use Rattle.answers.specs.declared.deciding.Lines.TheVariants.{Claim}
use Rattle.answers.proofs.Decides.{claim_decides}
use Rattle.kinds.specs.Outcomes.{DecidesForm}
use Rattle.kinds.proofs.KindLaws.{sheet_decided, unread_decided}

abbrev said : Option Text → Option Text → Option Text
said o p = o >>= λ l. p >>= λ r. Some (line (bytes "equal=") (claim (Some (same l r))))

told : (o p : Option Text) → said o p ≡ (equivalence_of o p >>= λ b. Some (line (bytes "equal=") (claim (Some b))))
told None p = refl
told (Some a) None = refl
told (Some a) (Some b) = refl

part_slice : (s : Text) (f t : ℕ) → slice f t s ≡ take (t - f) (drop f s)
part_slice s f t = drop_take f t s

-- what is answered, by whether the two texts have one canonical text
equal_told : (s : Text) (a b c d : ℕ) (r : Option Bool) → r ≡ equivalence_of (canonical_text (slice a b s)) (canonical_text (slice c d s))
    → answer_of (asks_equal (take (b - a) (drop a s)) (take (d - c) (drop c s))) ≡ (r >>= λ t. Some (line (bytes "equal=") (claim (Some t))))
unfolding answer_of
equal_told s a b c d r e =
    sym (ap₂ (λ (x y : Text). said (canonical_text x) (canonical_text y)) (part_slice s a b) (part_slice s c d))
    ∙ told (canonical_text (slice a b s)) (canonical_text (slice c d s))
    ∙ ap (λ (o : Option Bool). o >>= λ t. Some (line (bytes "equal=") (claim (Some t)))) (sym e)

-- b is a with other words
module _ {a b : Area} (l r : Place) (h : Lent a b) where
  pub equal_unread : None ≡ equivalence_of (canonical_text (slice l.from l.to a.sheet.now)) (canonical_text (slice r.from r.to a.sheet.now))
      → DecidesForm (sheet_of a.sheet.now (form.Equal l r)) a b (Err UnreadableTerm)
  unfolding sheet_of
  equal_unread e = unread_decided refl (equal_told a.sheet.now l.from l.to r.from r.to None e) h

  pub equal_decided : {t : Bool} → Some t ≡ equivalence_of (canonical_text (slice l.from l.to a.sheet.now)) (canonical_text (slice r.from r.to a.sheet.now))
      → DecidesForm (sheet_of a.sheet.now (form.Equal l r)) a b (Ok (Claim key.Equal (Some t)))
  unfolding sheet_of
  equal_decided {t} e = sheet_decided refl (equal_told a.sheet.now l.from l.to r.from r.to (Some t) e) h (claim_decides key.Equal (Some t))
