-- The answer to a sheet of kind `reduce`: the line of the normal form.
use mathlib.Core.Path.{◌≡◌, refl, sym, subst, ap, ◌∙◌}
use mathlib.Core.Bool.{true}
use Rattle.std.specs.Prelude.{Option, Some, Ok, Err}
use Prim.Native.Nat.{ℕ}
use Rattle.rules.specs.Bytes.{Text}
use Rattle.rules.specs.Text.{bytes}
use Rattle.rules.specs.Names.{all}
use Rattle.rules.specs.Maybe.{◌>>=◌}
use Rattle.rules.specs.Tree.{Tree, size}
use Rattle.rules.specs.Writing.{render}
use Rattle.rules.specs.Reading.{parse}
use Rattle.rules.specs.Reduction.{normalize}
use Rattle.rules.specs.Sheet.{asks_reduce}
use Rattle.rules.specs.Answer.{line, answer_of}
use Rattle.rules.specs.declared.Refusal.TheVariants.{UnreadableTerm}
use Rattle.laws.specs.Laying.{solid}
use Rattle.laws.proofs.Reading.Builds.{builds}
use Rattle.laws.proofs.Reduction.Reaching.{built_normal}
use Rattle.laws.proofs.Sheets.Solid.{render_solid}
use Rattle.tree.specs.declared.area.Area.{Area}
use Rattle.tree.specs.Areas.{tree_in}
use Rattle.tree.specs.Spelled.{text_in}
use Rattle.sheet.specs.declared.Place.{Place}
use Rattle.forms.specs.Form.{sheet_of}
use Rattle.forms.specs.declared.form.Form.TheVariants as form
use Rattle.reading.specs.Areas.{Reads, UnreadIn}
use Rattle.reduction.specs.Areas.{Becomes}
use Rattle.answers.specs.declared.deciding.Key.TheVariants as key
use Rattle.answers.specs.declared.deciding.Lines.TheVariants.{Term}
use Rattle.answers.proofs.Decides.{term_decides}
use Rattle.kinds.specs.Outcomes.{DecidesForm}
use Rattle.kinds.proofs.KindLaws.{sheet_decided, unread_decided, lent_then}

-- the answer, by what the term reads as
reduce_answer : (t : Text) {o : Option Tree} → parse t ≡ o → answer_of (asks_reduce t) ≡ (o >>= λ u. Some (line (bytes "normal=") (render (normalize u))))
unfolding answer_of
reduce_answer t e = ap (λ (o : Option Tree). o >>= λ u. Some (line (bytes "normal=") (render (normalize u)))) e

module _ {a b : Area} {t : Place} where
  pub reduce_unread : UnreadIn a b t → DecidesForm (sheet_of a.sheet.now (form.Reduce t)) a b (Err UnreadableTerm)
  unfolding sheet_of
  reduce_unread h = unread_decided refl (reduce_answer (text_in a t) h.unread) h.lent

  normal_solid : {i j : ℕ} {d : Area} → Reads a b t i → Becomes b d (size (tree_in b i)) 0 (normalize (tree_in b i)) j → all solid (render (tree_in d j)) ≡ true
  normal_solid {i} h g =
      let u = tree_in b i in
      subst (λ (z : Tree). all solid (render z) ≡ true) (sym g.tree) (render_solid (built_normal u (builds (text_in a t) u h.reads)))

  pub reduce_decided : {i j : ℕ} {d : Area} → Reads a b t i → Becomes b d (size (tree_in b i)) 0 (normalize (tree_in b i)) j
      → DecidesForm (sheet_of a.sheet.now (form.Reduce t)) a d (Ok (Term key.Normal j))
  unfolding sheet_of
  reduce_decided h g =
      sheet_decided refl
      (reduce_answer (text_in a t) h.reads ∙ ap (λ (z : Tree). Some (line (bytes "normal=") (render z))) (sym g.tree))
      (lent_then h.lent g.grows.lent)
      (term_decides key.Normal g.some_cell g.inside (normal_solid h g))
