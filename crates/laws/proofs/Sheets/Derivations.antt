-- Answered sheets of kind `unify` and `match`, tidy or not: the answer is what the rules derive from the sheet's pairs.
use mathlib.Core.Path.{◌≡◌, ◌∙◌, ap}
use mathlib.Core.List.{List}
use mathlib.Core.Logic.{◌↔◌}
use Rattle.std.specs.Prelude.{Some}
use Prim.Native.Nat.{ℕ}
use Rattle.rules.specs.Bytes.{Text}
use Rattle.rules.specs.Substitution.{Pair}
use Rattle.rules.specs.Sheet.{Sheet, Entry, asks_unify, asks_match}
use Rattle.rules.specs.Solving.{Verdict, Answer}
use Rattle.rules.specs.Derivation.{UnifyDerives, MatcherDerives}
use Rattle.rules.specs.Answer.{verdict_lines}
use Rattle.rules.specs.AnswerReading.{read_answer, Answered}
use Rattle.rules.specs.Tidy.{BuiltPairs}
use Rattle.laws.proofs.Solving.Derived.{unify_derives, matcher_derives}
use Rattle.laws.proofs.Sheets.Calls.{pairs_read}
use Rattle.laws.proofs.Sheets.Answers.{Kind, of_unify, of_match, written, read_back, as_ruled}

module _ {kind : ℕ → List Entry → Sheet} {solve : ℕ → List Pair → Answer} (rules : Kind kind solve) where
  -- the pairs of a sheet are as reading builds them
  sheet_built : {k : ℕ} {ps : List Pair} {a : Text} → Answered kind k ps a → BuiltPairs ps
  sheet_built {ps = ps} c = (pairs_read c.texts ps c.pairs).0

  -- what an answer reads as is what it is the text of
  pub derived_text : {k : ℕ} {ps : List Pair} {a : Text} → Answered kind k ps a → (v : Verdict) (n : ℕ) → read_answer a ≡ Some (v, n) → a ≡ verdict_lines (v, n)
  derived_text c v n e = written rules c ∙ ap verdict_lines (as_ruled rules c v n e)

  -- rules that are what a relation says
  sheet_derives : (Derived : ℕ → List Pair → Verdict → ℕ → Type 0)
      → ((k : ℕ) (ps : List Pair) → BuiltPairs ps → (v : Verdict) (n : ℕ) → (solve k ps ≡ (v, n)) ↔ Derived k ps v n)
      → {k : ℕ} {ps : List Pair} {a : Text} → Answered kind k ps a → (v : Verdict) (n : ℕ) → (read_answer a ≡ Some (v, n)) ↔ Derived k ps v n
  sheet_derives Derived law {k} {ps} c v n =
      let d = law k ps (sheet_built c) v n in
      (λ e. d.0 (as_ruled rules c v n e), λ h. read_back rules c ∙ ap Some (d.1 h))

pub unify_sheet_derives : {k : ℕ} {ps : List Pair} {a : Text} → Answered asks_unify k ps a → (v : Verdict) (n : ℕ)
    → (read_answer a ≡ Some (v, n)) ↔ UnifyDerives k ps v n
unify_sheet_derives = sheet_derives of_unify (λ k ps v n. UnifyDerives k ps v n) unify_derives

pub match_sheet_derives : {k : ℕ} {ps : List Pair} {a : Text} → Answered asks_match k ps a → (v : Verdict) (n : ℕ)
    → (read_answer a ≡ Some (v, n)) ↔ MatcherDerives k ps v n
match_sheet_derives = sheet_derives of_match (λ k ps v n. MatcherDerives k ps v n) matcher_derives
