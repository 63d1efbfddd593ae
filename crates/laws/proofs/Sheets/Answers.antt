-- Sheets of kind `unify` and `match` that are answered: the answer's text is the rules' answer, written out, and reads as it;
-- what more and less fuel gives.
use mathlib.Core.Path.{◌≡◌, sym, ◌∙◌, ap, subst}
use mathlib.Core.List.{List}
use Rattle.std.specs.Prelude.{Some}
use Rattle.laws.proofs.Basics.Somes.{some_injective}
use Prim.Native.Nat.{ℕ, ◌≤◌, ◌<◌}
use native.Mathlib.Omega.{arith}
use Rattle.rules.specs.Bytes.{Text}
use Rattle.rules.specs.Substitution.{Pair}
use Rattle.rules.specs.Sheet.{Sheet, Entry, asks_unify, asks_match, read_sheet}
use Rattle.rules.specs.Solving.{Verdict, unsupported, Answer, unify}
use Rattle.rules.specs.Matching.{matcher}
use Rattle.rules.specs.Meaning.{Decided, needed, FuelMeans}
use Rattle.rules.specs.Answer.{verdict_lines, read_pairs, answer_of}
use Rattle.rules.specs.AnswerReading.{read_answer, Answered}
use Rattle.rules.specs.Call.{passed, call}
use Rattle.laws.proofs.Solving.Fuel.{unify_fuelled, matcher_fuelled}
use Rattle.laws.proofs.Sheets.BuiltRun.{BuiltPairs, SmallPairs, Writable, unify_writable}
use Rattle.laws.proofs.Sheets.BuiltMatch.{matcher_writable}
use Rattle.laws.proofs.Sheets.AnswerText.{answer_read}
use Rattle.laws.proofs.Sheets.Calls.{call_answer, pairs_read, unify_text, match_text}

-- a kind of sheet and the rules that it is answered by
pub record Kind (kind : ℕ → List Entry → Sheet) (solve : ℕ → List Pair → Answer) : Type 0 where
  text : (k : ℕ) (texts : List Entry) (a : Text) → answer_of (kind k texts) ≡ Some a
      → (ps : List Pair) × (read_pairs texts ≡ Some ps) × (verdict_lines (solve k ps) ≡ a)
  writable : (k : ℕ) (ps : List Pair) → BuiltPairs ps → SmallPairs ps → Writable (solve k ps).0
  fuelled : (k m : ℕ) (ps : List Pair) → FuelMeans k m (solve k ps) (solve m ps)

pub of_unify : Kind asks_unify unify
of_unify = record { text = unify_text; writable = λ k ps b s. unify_writable k ps b; fuelled = unify_fuelled }

pub of_match : Kind asks_match matcher
of_match = record { text = match_text; writable = matcher_writable; fuelled = matcher_fuelled }

module _ {kind : ℕ → List Entry → Sheet} {solve : ℕ → List Pair → Answer} (rules : Kind kind solve) where
  -- every sheet of the kind that is answered has pairs
  pub answered_pairs : (s : Text) (words room k : ℕ) (texts : List Entry) (a : Text) → read_sheet s ≡ Some (kind k texts) → call s words room ≡ passed a
      → (ps : List Pair) × (read_pairs texts ≡ Some ps) × Answered kind k ps a
  answered_pairs s words room k texts a r e =
      let (ps, q, w) = rules.text k texts a (call_answer s words room (kind k texts) a r e) in
      (ps, q, record { sheet = s; words = words; room = room; texts = texts; reads = r; pairs = q; answered = e })

  -- the text is the rules' answer, written out
  pub written : {k : ℕ} {ps : List Pair} {a : Text} → Answered kind k ps a → a ≡ verdict_lines (solve k ps)
  written {k} {ps} {a} c =
      let (qs, r, e) = rules.text k c.texts a (call_answer c.sheet c.words c.room (kind k c.texts) a c.reads c.answered) in
      sym e ∙ ap (λ (z : List Pair). verdict_lines (solve k z)) (some_injective qs ps (sym r ∙ c.pairs))

  can_write : {k : ℕ} {ps : List Pair} {a : Text} → Answered kind k ps a → Writable (solve k ps).0
  can_write {k} {ps} c = let b = pairs_read c.texts ps c.pairs in rules.writable k ps b.0 b.1

  -- read back, it is the rules' answer: the verdict, the bindings and the count of pairs taken
  pub read_back : {k : ℕ} {ps : List Pair} {a : Text} → Answered kind k ps a → read_answer a ≡ Some (solve k ps)
  read_back {k} {ps} c = ap read_answer (written c) ∙ answer_read (solve k ps).0 (solve k ps).1 (can_write c)

  pub as_ruled : {k : ℕ} {ps : List Pair} {a : Text} → Answered kind k ps a → (v : Verdict) (n : ℕ) → read_answer a ≡ Some (v, n) → solve k ps ≡ (v, n)
  as_ruled {k} {ps} c v n e = some_injective (solve k ps) (v, n) (sym (read_back c) ∙ e)

  -- a decided answer is, byte for byte, the answer to the same pairs with the fuel that it needs or more
  pub more_fuel : {k m : ℕ} {ps : List Pair} {a b : Text} → Answered kind k ps a → Answered kind m ps b
      → (v : Verdict) (n : ℕ) → read_answer a ≡ Some (v, n) → Decided v → needed v n ≤ m → b ≡ a
  more_fuel {k} {m} {ps} c d v n e y h =
      let q = sym (as_ruled c v n e) in
      let z = subst (λ (w : Answer). Decided w.0) q y in
      let l = subst (λ (w : Answer). needed w.0 w.1 ≤ m) q h in
      written d ∙ ap verdict_lines ((rules.fuelled k m ps).enough z l) ∙ sym (written c)

  -- which is no more than the fuel that it was given
  pub fuel_within : {k : ℕ} {ps : List Pair} {a : Text} → Answered kind k ps a → (v : Verdict) (n : ℕ) → read_answer a ≡ Some (v, n) → Decided v → needed v n ≤ k
  fuel_within {k} {ps} c v n e y =
      let q = as_ruled c v n e in
      subst (λ (w : Answer). needed w.0 w.1 ≤ k) q ((rules.fuelled k k ps).within (subst (λ (w : Answer). Decided w.0) (sym q) y))

  -- so with as much fuel or more the rules' answer, written out, is the same text
  pub same_written : {k : ℕ} {ps : List Pair} {a : Text} → Answered kind k ps a → (m : ℕ) (v : Verdict) (n : ℕ) → read_answer a ≡ Some (v, n) → Decided v → k ≤ m
      → verdict_lines (solve m ps) ≡ a
  same_written {k} {ps} c m v n e y h =
      let z = fuel_within c v n e y in
      let q = sym (as_ruled c v n e) in
      let l : needed v n ≤ m = omega arith in
      ap verdict_lines ((rules.fuelled k m ps).enough (subst (λ (w : Answer). Decided w.0) q y) (subst (λ (w : Answer). needed w.0 w.1 ≤ m) q l)) ∙ sym (written c)

  -- so with as much fuel or more the answer is the same
  pub same_answer : {k m : ℕ} {ps : List Pair} {a b : Text} → Answered kind k ps a → Answered kind m ps b
      → (v : Verdict) (n : ℕ) → read_answer a ≡ Some (v, n) → Decided v → k ≤ m → b ≡ a
  same_answer c d v n e y h = let z = fuel_within c v n e y in more_fuel c d v n e y (omega arith)

  -- with less the same pairs are unsupported, and all the fuel is spent
  pub less_fuel : {k m : ℕ} {ps : List Pair} {a b : Text} → Answered kind k ps a → Answered kind m ps b
      → (v : Verdict) (n : ℕ) → read_answer a ≡ Some (v, n) → m < needed v n → read_answer b ≡ Some (unsupported, m)
  less_fuel {k} {m} {ps} c d v n e h =
      read_back d ∙ ap Some ((rules.fuelled k m ps).less (subst (λ (w : Answer). m < needed w.0 w.1) (sym (as_ruled c v n e)) h))
