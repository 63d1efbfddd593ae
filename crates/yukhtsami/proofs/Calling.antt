-- What was decided of a sheet is settled with the output, and answers the call.
use mathlib.Core.Path.{◌≡◌, refl, sym, subst, ap, ◌∙◌}
use mathlib.Core.List.{List}
use Prim.Native.Nat.{ℕ}
use lib.ListN.{length}
use Rattle.std.specs.Prelude.{Result, Err}
use native.Mathlib.Omega.{arith}
use Rattle.rules.specs.Bytes.{Text}
use Rattle.rules.specs.Sheet.{Sheet}
use Rattle.rules.specs.Answer.{answer_of}
use Rattle.rules.specs.Call.{Reply, refused, ◌>>=◌, given, admitted, settled, call, refusal_number, written, overwritten, zeroed, cleared, work_after}
use Rattle.rules.specs.PageCall.{page_settled, page_call}
use Rattle.tree.specs.declared.area.Area.{Area}
use Rattle.forms.specs.Form.{sheet_of, EnoughWords}
use Rattle.forms.specs.declared.form.Form.{Form}
use Rattle.forms.proofs.WordLaws.{bare_words}
use Rattle.answers.specs.Deciding.{reply_of, Standing, FitsColumns}
use Rattle.answers.specs.Settling.{within_room, Settles}
use Rattle.admission.specs.Admission.{Decoded, Stands}
use Rattle.pages.specs.Paging.{on_pages}
use Rattle.yukhtsami.specs.Answering.{settled_by, call_by, SettlesForm, Answers}
use Rattle.yukhtsami.specs.declared.Layout.{Layout}
use Rattle.yukhtsami.specs.declared.Layout.TheVariants as layout
use Rattle.answers.specs.declared.deciding.Lines.{Lines}
use Rattle.rules.specs.declared.Refusal.{Refusal}
use Rattle.rules.specs.declared.Refusal.TheVariants.{UnreadableTerm}
use Rattle.rules.specs.RefusalNumbers.{number_for}
use Rattle.kinds.specs.Outcomes.{DecidesForm}

-- what was decided, with an output

-- a reply given in a layout
abbrev pub replied_by : Layout → Reply Text → ℕ → Reply Text
replied_by layout.Lines = within_room
replied_by layout.Pages = on_pages

replies : (l : Layout) (sheet : Sheet) (room : ℕ) → replied_by l (given (answer_of sheet) (number_for UnreadableTerm)) room ≡ settled_by l sheet room
unfolding settled page_settled within_room on_pages
replies layout.Lines sheet room = refl
replies layout.Pages sheet room = refl

module _ (s : Text) (f : Form) {a b : Area} where
  pub decided_held : {d : Result Lines Refusal} → Decoded s f → DecidesForm (sheet_of s f) a b d → Standing b d
  decided_held x h = (h.decides x.sheet x.decodes).held

  pub decided_columned : {d : Result Lines Refusal} → Decoded s f → DecidesForm (sheet_of s f) a b d → FitsColumns b d
  decided_columned x h = (h.decides x.sheet x.decodes).columned

  pub decided_settles : (l : Layout) (d : Result Lines Refusal) {out v : Text} {r : Result ℕ Refusal} → DecidesForm (sheet_of s f) a b d
      → Settles (replied_by l (reply_of b d) (length out)) out v r → SettlesForm (settled_by l) (sheet_of s f) out v r
  decided_settles l d {out} {v} {r} h k sheet e =
      subst (λ (z : Reply Text). Settles z out v r)
      (ap (λ (z : Reply Text). replied_by l z (length out)) (h.decides sheet e).reply ∙ replies l sheet (length out)) k

-- the whole call, by what was admitted and settled
abbrev settled_after : Layout → ℕ → Reply Sheet → Reply Text
settled_after l room o = do
  sheet ← o
  settled_by l sheet room

called_by : (l : Layout) (s : Text) (words room : ℕ) → call_by l s words room ≡ settled_after l room (admitted s words)
unfolding call page_call
called_by layout.Lines s words room = refl
called_by layout.Pages s words room = refl

module _ (l : Layout) (s : Text) (w : List ℕ) (out : Text) where
  pub refused_answers : (x : Refusal) → admitted s (length w) ≡ refused (number_for x) → Answers (call_by l) s w w out out (Err x)
  unfolding work_after
  refused_answers x e =
      let f : call_by l s (length w) (length out) ≡ refused (number_for x) =
      called_by l s (length w) (length out) ∙ ap (settled_after l (length out)) e in
      record {
        number = sym (ap refusal_number f);
        written_is = sym (ap written f);
        output = sym (ap (λ (z : Reply Text). overwritten z out) f);
        work = sym (ap (λ (z : Reply Sheet). cleared s z w) e);
      }

  module _ (f : Form) (needed : ℕ) (a : Stands s (length w) f needed) where
    pub enough_words : EnoughWords s f needed
    enough_words = omega (arith, a.need, bare_words s f a.decoded.sheet a.decoded.decodes)

    pub settled_answers : (v : List ℕ) (after : Text) (r : Result ℕ Refusal) → SettlesForm (settled_by l) (sheet_of s f) out after r → v ≡ zeroed needed w
        → Answers (call_by l) s w v out after r
    unfolding work_after
    settled_answers v after r h z =
        let k = h a.decoded.sheet a.decoded.decodes in
        let g : call_by l s (length w) (length out) ≡ settled_by l a.decoded.sheet (length out) =
        called_by l s (length w) (length out) ∙ ap (settled_after l (length out)) a.passes in
        record {
          number = k.number ∙ sym (ap refusal_number g);
          written_is = k.count ∙ sym (ap written g);
          output = k.output ∙ sym (ap (λ (y : Reply Text). overwritten y out) g);
          work = z ∙ ap (λ (n : ℕ). zeroed n w) a.need ∙ sym (ap (λ (y : Reply Sheet). cleared s y w) a.passes);
        }
