-- The answer to a sheet of kind `cover`: what its pairs and members are, and what is claimed of them.
use mathlib.Core.Path.{◌≡◌, sym, ap, subst, ◌∙◌}
use mathlib.Core.Bool.{Bool}
use mathlib.Core.List.{List}
use Rattle.std.specs.Prelude.{Ok, Option, Some, None, Err}
use Prim.Native.Nat.{ℕ}
use native.Mathlib.Omega.{arith}
use lib.ListN.{length}
use Rattle.rules.specs.Bytes.{Text}
use Rattle.rules.specs.Text.{bytes}
use Rattle.rules.specs.Maybe.{◌>>=◌}
use Rattle.rules.specs.Substitution.{Pair}
use Rattle.rules.specs.Sheet.{Entry, Member, asks_cover, read_sheet}
use Rattle.rules.specs.Cover.{covered}
use Rattle.rules.specs.Answer.{read_pairs, line, claim, answer_of}
use Rattle.forms.specs.Members.{members_at}
use Rattle.forms.specs.Form.{sheet_of, Within}
use Rattle.sheet.specs.declared.Cursor.{Cursor}
use Rattle.forms.specs.declared.form.Form.{Form}
use Rattle.forms.specs.declared.form.Form.TheVariants as form
use Rattle.forms.proofs.WalkLaws.{members_later, cover_parts, walked_rest, lines_members}
use Rattle.tree.specs.declared.area.Area.{Area}
use Rattle.tree.specs.Areas.{Lent}
use Rattle.tree.proofs.Keeping.{grows_then}
use Rattle.cover.specs.Areas.{CoverInputIn, ClaimsCoveredIn}
use Rattle.admission.specs.Admission.{Decoded}
use Rattle.pairs.specs.Areas.{InOrder}
use Rattle.sheet.specs.declared.Read.{Read}
use Rattle.kinds.specs.Outcomes.{WordsFor, CoverAsked, DecidesForm}
use Rattle.answers.specs.declared.deciding.Key.TheVariants as key
use Rattle.answers.specs.declared.deciding.Lines.TheVariants.{Claim}
use Rattle.rules.specs.declared.Refusal.TheVariants.{UnreadableTerm}
use Rattle.answers.proofs.Decides.{claim_decides}
use Rattle.kinds.proofs.KindLaws.{sheet_decided, unread_decided}
use Rattle.kinds.proofs.Solves.{read_whole, read_are}

-- the members of the form are those after its pairs
pub cover_asked : (s : Text) (c d : Cursor) (f : Form) → f ≡ form.Cover c d → Decoded s f → CoverAsked s c.at
cover_asked s c d f e h =
    let (es, rest, ms, g, lines, there) = cover_parts s c d h.sheet (ap (sheet_of s) (sym e) ∙ h.decodes) in
    let w = subst (Within s) e h.within in
    record {
      entries = es;
      rest = rest;
      members = ms;
      lines = lines;
      later = lines_members s d.at rest ms (walked_rest s c.at d.at w.2 es rest lines) there;
      reads = h.reads ∙ ap Some g;
      short = h.short;
      inside = w.0;
    }

-- the answer, by what the pairs read as
cover_answer : (es : List Entry) (ms : List Member) {o : Option (List Pair)} → read_pairs es ≡ o
    → answer_of (asks_cover es ms) ≡ (o >>= λ ps. Some (line (bytes "covered=") (claim (covered ps ms))))
unfolding answer_of
cover_answer es ms e = ap (λ (o : Option (List Pair)). o >>= λ ps. Some (line (bytes "covered=") (claim (covered ps ms)))) e

module _ {a b : Area} {at : ℕ} (k : CoverAsked a.sheet.now at) where
  pub cover_unread : read_pairs k.entries ≡ None → Lent a b → DecidesForm (read_sheet a.sheet.now) a b (Err UnreadableTerm)
  cover_unread e l = unread_decided k.reads (cover_answer k.entries k.members e) l

  module _ {r : Read ℕ} (empty : a.free ≡ 1) (h : InOrder a b at k.entries k.rest r) where
    members_there : members_at b.sheet.now r.next.at ≡ Some k.members
    members_there = members_later b.sheet.now r.next.at k.rest k.members h.lines k.later

    pub cover_asks : WordsFor a.sheet.now (length a.work.now) → CoverInputIn b r.value r.next.at
    cover_asks enough =
        let e = ap (λ x. x.now) h.grows.lent.sheet in
        record {
          entries = k.entries;
          members = k.members;
          reads = ap read_sheet e ∙ k.reads;
          short = rw e k.short;
          pairs = h.read ∙ ap Some (sym (read_are h));
          whole = read_whole h;
          later = members_there;
          inside = h.within;
          used = omega (arith, h.used, h.onward);
          words = rw e (omega (arith, enough (asks_cover k.entries k.members) k.reads, h.grows.below.len));
        }

    pub cover_decided : {d : Area} {c : Option Bool} → ClaimsCoveredIn b d r.value r.next.at c → DecidesForm (read_sheet a.sheet.now) a d (Ok (Claim key.Covered c))
    cover_decided {d} {c} g =
        sheet_decided k.reads
        (cover_answer k.entries k.members (h.read ∙ ap Some (sym (read_are h))) ∙ ap (λ (o : Option Bool). Some (line (bytes "covered=") (claim o))) (sym (g.claim k.members members_there)))
        (grows_then h.grows g.grows).lent
        (claim_decides key.Covered c)
